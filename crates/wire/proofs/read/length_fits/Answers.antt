-- `wire::read::length_fits` meets its contract: it is the test of `length_fits`. A count is below 2 ^ 16, so no sum wraps.
use Rattle.wire.specs.Frame.{length_fits}
use Rattle.wire.proofs.read.length_fits.Goals as goal

pub returns : goal.returns
unfolding length_fits
returns c = rw c.number_count.ensures
