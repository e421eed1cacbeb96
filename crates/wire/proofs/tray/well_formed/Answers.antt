-- `wire::tray::well_formed` meets its contract: the tests of the header, of the directory's room and of the frames are those of `well_formed`.
use Rattle.std.proofs.Common.{rules}
use Rattle.wire.specs.Tray.{well_formed}
use Rattle.wire.proofs.tray.well_formed.Goals as goal

pub returns-then-half-count : goal.returns-then-half-count
unfolding well_formed
returns-then-half-count c = search rules

pub returns-else-half-count : goal.returns-else-half-count
unfolding well_formed
returns-else-half-count c = search rules
