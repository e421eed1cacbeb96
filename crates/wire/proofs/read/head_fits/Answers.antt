-- `wire::read::head_fits` meets its contract: it is the three tests of `head_fits` in their order.
use Rattle.std.proofs.Common.{rules}
use Rattle.wire.specs.Frame.{head_fits}
use Rattle.wire.proofs.read.head_fits.Goals as goal

pub returns-then-word-round : goal.returns-then-word-round
unfolding head_fits
returns-then-word-round c = search rules

pub returns-else-word-round : goal.returns-else-word-round
unfolding head_fits
returns-else-word-round c = search rules
