-- `wire::read::body_fits` meets its contract: it is the two tests of `body_fits` in their order.
use Rattle.std.proofs.Common.{rules}
use Rattle.wire.specs.Frame.{body_fits}
use Rattle.wire.proofs.read.body_fits.Goals as goal

pub returns-then-bit_fits : goal.returns-then-bit_fits
unfolding body_fits
returns-then-bit_fits c = search rules

pub returns-else-bit_fits : goal.returns-else-bit_fits
unfolding body_fits
returns-else-bit_fits c = search rules
