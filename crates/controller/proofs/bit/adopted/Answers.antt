-- `controller::bit::adopted` meets its contract: each case gives the tests of `adopted_from` their values.
use Rattle.std.proofs.Common.{le-leb}
use Rattle.std.proofs.lemmas.Bool.{lt-leb}
use Rattle.controller.specs.Work.Bit.{adopted_from}
use Rattle.controller.specs.Thirds.{third}
use Rattle.controller.proofs.bit.adopted.Goals as goal

pub returns-in-true-false : goal.returns-in-true-false
unfolding adopted_from third
returns-in-true-false c = rw (le-leb _ _ c.in-true-false.is-0, lt-leb _ _ c.in-true-false.is-1)

pub returns-in-false-true : goal.returns-in-false-true
unfolding adopted_from third
returns-in-false-true c = rw (lt-leb _ _ c.in-false-true.is-0, le-leb _ _ c.in-false-true.is-1)

-- both
pub returns-in_default : goal.returns-in_default
unfolding adopted_from third
returns-in_default c = rw (le-leb _ _ c.in_default.is-0, le-leb _ _ c.in_default.is-1)

-- neither
pub returns-in_default-2 : goal.returns-in_default-2
unfolding adopted_from third
returns-in_default-2 c = rw (lt-leb _ _ c.in_default.is-0, lt-leb _ _ c.in_default.is-1)
