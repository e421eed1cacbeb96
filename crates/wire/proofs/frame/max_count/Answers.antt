-- `wire::frame::max_count` meets its contract: each arm gives the tests of `max_count` their values.
use Rattle.std.proofs.Common.{rules}
use Rattle.wire.specs.Frame.{max_count}
use Rattle.wire.proofs.frame.max_count.Goals as goal

pub returns-in-2 : goal.returns-in-2
unfolding max_count
returns-in-2 c = search rules

pub returns-in_default : goal.returns-in_default
unfolding max_count
returns-in_default c = search rules
