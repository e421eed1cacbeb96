-- `wire::frame::round_fits` meets its contract: it is the two tests of `round_fits`.
use Rattle.wire.specs.Frame.{round_fits}
use Rattle.std.specs.Prelude.{refl}
use Rattle.wire.proofs.frame.round_fits.Goals as goal

pub returns : goal.returns
unfolding round_fits
returns c = refl
