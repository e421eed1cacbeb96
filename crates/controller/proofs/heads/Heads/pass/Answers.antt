-- `crate::heads::Heads::pass` meets its contract: the laws say what moving a list on and making a node anew keep, and that no head is left below the next key.
use Rattle.std.proofs.Common.{ℕ, ◌%◌, ◌/◌, get_or, refl, arith}
use Rattle.controller.specs.Laws.Work.Heads.{Waits, passing_start, passing_place, passing_fits, moved_fewer, first_waits, climbing_starts}
use Rattle.controller.specs.Laws.Work.Heads.{beside_waits, climbing_jumps, climbing_climbs, climbing_ends}
use Rattle.controller.specs.Laws.Work.Opened.{sent_at}
use Rattle.controller.specs.Work.Heads.{slots, Passable}
use Rattle.controller.specs.declared.heads.Heads.{Heads}
use Rattle.controller.specs.declared.open_list.OpenLists.{OpenLists}
use Rattle.controller.proofs.heads.Heads.pass.Goals.{Then-other-limit}
use Rattle.controller.proofs.heads.Heads.pass.Goals as goal

-- the list of node 1 waits, and so does that of a sibling with the number
start_waits : {o : OpenLists} {first : ℕ} {h : Heads} → Passable o first h → Waits h.tree o.len (first / slots) (first % slots)
start_waits {o} g = first_waits o.opens g.some g.room g.standing g.ordered g.least refl

turn_waits : (c : Then-other-limit)
    → Waits c.loop-i.self.tree c.args.opened.now.len (c.args.first / slots) (get_or c.loop-i.self.tree c.sibling.result 0 % slots)
turn_waits c = beside_waits c.args.opened.now.opens c.requires.some c.loop-i.invariant c.loop-i-test.true c.sibling.ensures c.if-other-limit.true

pub bounds-opened-j : goal.bounds-opened-j
bounds-opened-j c = omega (arith, start_waits c.requires, c.args.opened.now.opens.few)

pub move_on-key-requires : goal.move_on-key-requires
move_on-key-requires c =
    let pre = c.requires in
    let o = c.args.opened.now.opens in
    let j = c.args.first % slots in
    let h = (start_waits pre).0 in
    let place = passing_place o pre.some (passing_start o pre.some pre.room pre.standing) j h in
    (h, pre.room, place)

pub loop-i-init : goal.loop-i-init
loop-i-init c =
    let pre = c.requires in
    rw (← sent_at c.args.opened.now.lists (c.args.first % slots))
    (climbing_starts c.args.opened.now.opens pre.some pre.room pre.standing pre.ordered pre.least refl c.move_on-key.ensures)

pub bounds-opened-j-then-other-limit : goal.bounds-opened-j-then-other-limit
bounds-opened-j-then-other-limit c =
    omega (arith, turn_waits (goal.at.bounds-opened-j-then-other-limit c).Then-other-limit, c.args.opened.now.opens.few)

pub overflow_add-count : goal.overflow_add-count
overflow_add-count c =
    let h = turn_waits (goal.at.overflow_add-count c).Then-other-limit in
    let j = get_or c.loop-i.self.tree c.sibling.result 0 % slots in
    omega (arith, passing_fits c.args.opened.now.opens c.requires.some c.loop-i.invariant.passing j h, sent_at c.args.opened.now.lists j)

pub move_on-key-requires-then-other-limit : goal.move_on-key-requires-then-other-limit
move_on-key-requires-then-other-limit c =
    let o = c.args.opened.now.opens in
    let g = c.loop-i.invariant.passing in
    let j = get_or c.loop-i.self.tree c.sibling.result 0 % slots in
    let h = (turn_waits (goal.at.move_on-key-requires-then-other-limit c).Then-other-limit).0 in
    (h, g.room, passing_place o c.requires.some g j h)

pub loop-i-smaller-then-other-limit : goal.loop-i-smaller-then-other-limit
loop-i-smaller-then-other-limit c =
    let pre = c.requires in
    let h = turn_waits (goal.at.loop-i-smaller-then-other-limit c).Then-other-limit in
    let fewer = moved_fewer c.args.opened.now.opens pre.some c.loop-i.invariant.passing h c.move_on-key-then-other-limit.ensures (λ (k : ℕ). 1) in
    omega (arith, fewer, h.0, c.args.opened.now.opens.few)

pub loop-i-preserved-then-other-limit : goal.loop-i-preserved-then-other-limit
loop-i-preserved-then-other-limit c =
    rw (← sent_at c.args.opened.now.lists (get_or c.loop-i.self.tree c.sibling.result 0 % slots))
    (climbing_jumps c.args.opened.now.opens c.requires.some c.loop-i.invariant c.loop-i-test.true c.sibling.ensures
    c.if-other-limit.true c.move_on-key-then-other-limit.ensures)

pub loop-i-preserved : goal.loop-i-preserved
loop-i-preserved c =
    climbing_climbs c.args.opened.now.opens c.requires.some c.loop-i.invariant c.loop-i-test.true c.sibling.ensures
    c.if-other-limit.false c.min-key.ensures

pub returns : goal.returns
returns c = (climbing_ends c.args.opened.now.opens c.requires.some c.loop-i.invariant c.loop-i-test.false, c.loop-i.invariant.passing.room)
