-- `wire::frame::kind_of` meets its contract: each arm gives the tests of `kind_of` their values.
use Rattle.std.proofs.Common.{rules}
use Rattle.wire.specs.Frame.{kind_of}
use Rattle.wire.proofs.frame.kind_of.Goals as goal

pub returns-in-1 : goal.returns-in-1
unfolding kind_of
returns-in-1 c = search rules

pub returns-in-2 : goal.returns-in-2
unfolding kind_of
returns-in-2 c = search rules

pub returns-in_default : goal.returns-in_default
unfolding kind_of
returns-in_default c = search rules
