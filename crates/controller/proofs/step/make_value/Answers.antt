-- `controller::step::make_value` meets its contract: the lists have grown, and the bit is the one taken; lists that do not fit leave the state as it was.
use Rattle.std.specs.Prelude.{refl}
use Rattle.controller.specs.Laws.Work.Step.{value_made, value_refused}
use Rattle.controller.proofs.step.make_value.Goals as goal

pub returns-in_err-grow : goal.returns-in_err-grow
returns-in_err-grow c = rw c.from_residual.ensures (value_refused c.requires.0 c.requires.1 c.in_err-grow.ensures refl)

pub returns : goal.returns
returns c = value_made c.requires.0 c.requires.1 c.in_ok-grow.ensures _ _ refl c.bit_taken-bit.ensures c.name_king.ensures
