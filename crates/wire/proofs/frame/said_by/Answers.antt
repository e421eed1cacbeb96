-- `wire::frame::said_by` meets its contract: each arm gives the tests of `said_by` their values.
use Rattle.std.proofs.Common.{rules}
use Rattle.wire.specs.Frame.{said_by}
use Rattle.wire.proofs.frame.said_by.Goals as goal

pub returns-in-1 : goal.returns-in-1
unfolding said_by
returns-in-1 c = search rules

pub returns-in-2 : goal.returns-in-2
unfolding said_by
returns-in-2 c = search rules

pub returns-in-3 : goal.returns-in-3
unfolding said_by
returns-in-3 c = search rules

pub returns-in-4 : goal.returns-in-4
unfolding said_by
returns-in-4 c = search rules

pub returns-in_default : goal.returns-in_default
unfolding said_by
returns-in_default c = search rules
