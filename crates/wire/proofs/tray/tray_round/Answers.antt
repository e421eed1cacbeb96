-- `wire::tray::tray_round` meets its contract: the branch gives the test of `round_of` its value.
use Rattle.std.proofs.Common.{rules}
use Rattle.wire.specs.Tray.{round_of}
use Rattle.wire.proofs.tray.tray_round.Goals as goal

pub returns-then-tray-ge-TRAY_HEADER : goal.returns-then-tray-ge-TRAY_HEADER
unfolding round_of
returns-then-tray-ge-TRAY_HEADER c = search rules

pub returns-else-tray-ge-TRAY_HEADER : goal.returns-else-tray-ge-TRAY_HEADER
unfolding round_of
returns-else-tray-ge-TRAY_HEADER c = search rules
