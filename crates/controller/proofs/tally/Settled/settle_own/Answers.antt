-- `crate::tally::Settled::settle_own` meets its contract: each turn settles the least number left of a rising list.
use Rattle.std.specs.Prelude.{ℕ, ◌<◌, List, ◌≡◌, length, get_or}
use Rattle.wire.specs.Numbers.{listed}
use Rattle.controller.specs.Laws.Lists.{in_mem, get_or_in}
use Rattle.controller.specs.Laws.Work.Alone.{Passed, passed_none, passed_next, passed_on, passed_all}
use Rattle.controller.specs.Laws.Work.Walk.{settles_none}
use Rattle.controller.specs.Work.Tally.{Startable, OneList, Settles, alone}
use Rattle.controller.specs.declared.tally.Settled.{Settled}
use Rattle.controller.proofs.tally.Settled.settle_own.Goals as goal

-- of the number at place i: m sent it, and those before it are settled
weighs : (own : List ℕ) (m i : ℕ) → i < length own → alone own m (get_or own i 0) ≡ m
weighs own m i inside = rw (in_mem (get_or_in own i inside))

due : {own : List ℕ} {m h i : ℕ} {start q : Settled} → Startable start h → OneList own → Passed own m h (listed start.candidates) i q → i < length own
    → Settles (alone own m) h (listed start.candidates) (get_or own i 0) q
due pre one passed inside = passed_next _ _ _ _ one.rises pre.some passed inside

pub loop-number-init : goal.loop-number-init
loop-number-init c =
    let start = c.requires.start in
    passed_none _ _ _ _ (settles_none _ _ start.empty start.candidates start.place)

pub settle-requires : goal.settle-requires
settle-requires c =
    let so_far = due c.requires.start c.requires.list c.loop-number.invariant c.loop-number-test.true in
    record {
      echoes = so_far.echoes.sound;
      candidates = so_far.candidates.sound;
      place = so_far.place;
      few = c.requires.few;
      most = c.requires.start.most;
      some = c.requires.start.some;
      positive = λ some. c.requires.list.positive _ (get_or_in c.args.own.now c.loop-number.number-index c.loop-number-test.true);
    }

pub loop-number-preserved : goal.loop-number-preserved
loop-number-preserved c =
    let at = c.loop-number.invariant in
    let inside = c.loop-number-test.true in
    passed_on _ _ _ _ c.requires.list.rises c.requires.start.some inside
    (c.in_ok-settle.ensures _ _ (weighs _ _ _ inside) (due c.requires.start c.requires.list at inside))

pub returns-in_err-settle : goal.returns-in_err-settle
returns-in_err-settle c =
    let at = c.loop-number.invariant in
    let inside = c.loop-number-test.true in
    rw c.from_residual.ensures (c.in_err-settle.ensures _ _ (weighs _ _ _ inside) (due c.requires.start c.requires.list at inside))

pub returns : goal.returns
returns c = passed_all _ _ _ _ c.requires.list.rises c.requires.start.some c.loop-number.invariant c.loop-number-test.false
