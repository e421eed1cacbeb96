-- `crate::tally::Settled::settle` meets its contract: not at a third, or a candidate, the number changes nothing; else it is put in at its place, or is one
-- too many.
use Rattle.std.specs.Prelude.{ℕ, ◌*◌, ◌≤◌, ◌<◌}
use Rattle.std.proofs.Common.{sym, arith}
use Rattle.wire.specs.Numbers.{listed}
use Rattle.controller.specs.Laws.Lists.{mem_in, mem_out}
use Rattle.controller.specs.Laws.State.{sound_list_gives}
use Rattle.controller.specs.Laws.Work.Lists.{below_length}
use Rattle.controller.specs.Laws.Work.Settle.{settles_few, settles_known, settles_crowds_echoes, settles_echoes, settles_crowds_candidates, settles_joins}
use Rattle.controller.specs.Work.Tally.{Settleable}
use Rattle.controller.specs.declared.tally.Settled.{Settled}
use Rattle.controller.proofs.tally.Settled.settle.Goals as goal

-- a number that is in a third of the lists is in one
positive : {s : Settled} {x count h : ℕ} → Settleable s x count h → h ≤ 3 * count → 0 < x
positive pre third = pre.positive (omega (arith, pre.some))

pub returns-then-count-h : goal.returns-then-count-h
returns-then-count-h c v cs e was = settles_few was (omega (arith, c.if-count-h.true))

pub returns-then-has_at : goal.returns-then-has_at
returns-then-has_at c v cs e was = settles_known was (mem_in _ (sym c.if-has_at.ensures))

pub returns-then-echoed-ge-MAX_NUMBERS : goal.returns-then-echoed-ge-MAX_NUMBERS
returns-then-echoed-ge-MAX_NUMBERS c v cs e was =
    settles_crowds_echoes was (omega (arith, c.if-count-h.false)) (mem_out _ (sym c.if-has_at.ensures)) (positive c.requires c.if-count-h.false)
    c.if-echoed-ge-MAX_NUMBERS.true

pub returns-then-count-h-2 : goal.returns-then-count-h-2
returns-then-count-h-2 c v cs e was =
    settles_echoes was (omega (arith, c.if-count-h.false)) (mem_out _ (sym c.if-has_at.ensures)) (positive c.requires c.if-count-h.false)
    (omega (arith, c.if-count-h-2.true)) c.if-echoed-ge-MAX_NUMBERS.false c.place_from-place.ensures c.insert_at.ensures

pub returns-then-self-ge-MAX_NUMBERS : goal.returns-then-self-ge-MAX_NUMBERS
returns-then-self-ge-MAX_NUMBERS c v cs e was =
    settles_crowds_candidates was (omega (arith, c.if-count-h.false)) (mem_out _ (sym c.if-has_at.ensures)) (positive c.requires c.if-count-h.false)
    (omega (arith, c.if-count-h-2.false)) c.if-self-ge-MAX_NUMBERS.true

pub insert_at-requires-2-clause-inside : goal.insert_at-requires-2-clause-inside
insert_at-requires-2-clause-inside c =
    let list = c.args.self.now.candidates in
    let used = (sound_list_gives list c.requires.candidates).used in
    omega (arith, c.place_from-place.ensures, used, below_length c.args.x (listed list))

pub returns : goal.returns
returns c v cs e was =
    settles_joins was (omega (arith, c.if-count-h.false)) (mem_out _ (sym c.if-has_at.ensures)) (positive c.requires c.if-count-h.false)
    (omega (arith, c.if-count-h-2.false)) c.if-echoed-ge-MAX_NUMBERS.false c.if-self-ge-MAX_NUMBERS.false
    c.place_from-place.ensures c.insert_at.ensures c.insert_at-2.ensures
