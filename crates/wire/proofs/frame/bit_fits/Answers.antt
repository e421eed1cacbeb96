-- `wire::frame::bit_fits` meets its contract: each arm gives the tests of `bit_fits` their values.
use Rattle.std.proofs.Common.{rules}
use Rattle.wire.specs.Frame.{bit_fits}
use Rattle.wire.proofs.frame.bit_fits.Goals as goal

pub returns-in-3 : goal.returns-in-3
unfolding bit_fits
returns-in-3 c = search rules

pub returns-in-0-to-2 : goal.returns-in-0-to-2
unfolding bit_fits
returns-in-0-to-2 c = search rules

pub returns-in_default : goal.returns-in_default
unfolding bit_fits
returns-in_default c = search rules
