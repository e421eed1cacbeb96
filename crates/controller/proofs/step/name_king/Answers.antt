-- `controller::step::name_king` meets its contract: each branch gives the test of `named_state` its value.
use Rattle.std.proofs.Common.{le-leb}
use Rattle.std.proofs.lemmas.Bool.{lt-leb}
use Rattle.controller.specs.Work.Step.{named_state}
use Rattle.controller.proofs.step.name_king.Goals as goal

pub returns-then-state-phase : goal.returns-then-state-phase
unfolding named_state
returns-then-state-phase c = rw (le-leb _ _ c.if-state-phase.true, c.king_at-state.ensures)

pub returns-else-state-phase : goal.returns-else-state-phase
unfolding named_state
returns-else-state-phase c = rw (lt-leb _ _ c.if-state-phase.false, c.king_at-state.ensures)
