-- `crate::tally::Settled::settle_all` meets its contract: each turn settles the least number left, so that all are settled when the lists have ended.
use Rattle.std.specs.Prelude.{ℕ, ◌+◌, ◌/◌, ◌≤◌, get_or}
use Rattle.std.proofs.Common.{sym, arith}
use Rattle.wire.specs.Numbers.{listed}
use Rattle.controller.specs.Laws.Work.Walk.{settles_none, Walking, walking_on, walking_end}
use Rattle.controller.specs.Laws.Work.Weights.{weighed_most, weighed_positive}
use Rattle.controller.specs.Work.Heads.{slots, PassesIn}
use Rattle.controller.specs.Work.Opened.{weighed_in}
use Rattle.controller.specs.Work.Tally.{Settleable, Settles, Startable}
use Rattle.controller.specs.declared.heads.Heads.{Heads}
use Rattle.controller.specs.declared.heads.Passed.{Passed}
use Rattle.controller.specs.declared.open_list.OpenLists.{OpenLists}
use Rattle.controller.specs.declared.tally.Settled.{Settled}
use Rattle.controller.proofs.tally.Settled.settle_all.Goals as goal

-- the turn of the first key f
module _ {o : OpenLists} {h : ℕ} {start : Settled} (pre : Startable start h) {g : Heads} {q : Settled} {f : ℕ}
    (at : Walking o h (listed start.candidates) g q f) {passed : Passed} (u : Heads) (passes : PassesIn o (f / slots) passed u)
  where
    due : Settleable q (f / slots) passed.count h
    due = record {
      echoes = at.settles.echoes.sound;
      candidates = at.settles.candidates.sound;
      place = at.settles.place;
      few = omega (arith, passes.0.count, weighed_most _ _ _ _ _ _ o.opens (f / slots));
      most = pre.most;
      some = pre.some;
      positive = λ some. weighed_positive _ _ _ _ _ _ o.opens (f / slots) (omega (arith, passes.0.count, some));
    }

    goes_on : {r : Settled} → Settles (weighed_in o) h (listed start.candidates) (f / slots + 1) r → Walking o h (listed start.candidates) u r passed.first
    goes_on settled =
        let later : f / slots + 1 ≤ get_or u.tree 1 0 / slots = omega (arith, passes.0.later, passes.0.first) in
        rw passes.0.first
        (walking_on o h (listed start.candidates) pre.some (f / slots + 1) u _ passes.1 passes.0.ordered passes.0.standing settled later)

pub loop-key-init : goal.loop-key-init
loop-key-init c =
    let lined = c.line_up.ensures in
    let before = settles_none _ _ c.requires.empty c.requires.candidates c.requires.place in
    walking_on _ _ _ c.requires.some 0 _ _ lined.room lined.ordered lined.standing before (omega arith)

pub settle-requires : goal.settle-requires
settle-requires c = due c.requires c.loop-key.invariant _ c.pass-passed.ensures

pub loop-key-preserved : goal.loop-key-preserved
loop-key-preserved c =
    goes_on c.requires c.loop-key.invariant _ c.pass-passed.ensures
    (c.in_ok-settle.ensures _ _ (sym c.pass-passed.ensures.0.count) c.loop-key.invariant.settles)

pub returns-in_err-settle : goal.returns-in_err-settle
returns-in_err-settle c =
    rw c.from_residual.ensures (c.in_err-settle.ensures _ _ (sym c.pass-passed.ensures.0.count) c.loop-key.invariant.settles)

pub returns : goal.returns
returns c = walking_end _ _ _ c.requires.some c.loop-key.invariant c.loop-key-test.false
