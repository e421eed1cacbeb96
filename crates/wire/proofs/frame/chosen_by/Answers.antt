-- `wire::frame::chosen_by` meets its contract: each branch gives the test of `chosen_by` its value.
use Rattle.std.proofs.Common.{rules}
use Rattle.wire.specs.Frame.{chosen_by}
use Rattle.wire.proofs.frame.chosen_by.Goals as goal

pub returns-then-bit-eq-NO_BIT : goal.returns-then-bit-eq-NO_BIT
unfolding chosen_by
returns-then-bit-eq-NO_BIT c = search rules

pub returns-else-bit-eq-NO_BIT : goal.returns-else-bit-eq-NO_BIT
unfolding chosen_by
returns-else-bit-eq-NO_BIT c = search rules
