-- `wire::tray::entry_count` meets its contract: the branch gives the test of `entry_count` its value.
use Rattle.std.proofs.Common.{rules}
use Rattle.wire.specs.Tray.{entry_count}
use Rattle.wire.proofs.tray.entry_count.Goals as goal

pub returns-then-tray-ge-TRAY_HEADER : goal.returns-then-tray-ge-TRAY_HEADER
unfolding entry_count
returns-then-tray-ge-TRAY_HEADER c = search rules

pub returns-else-tray-ge-TRAY_HEADER : goal.returns-else-tray-ge-TRAY_HEADER
unfolding entry_count
returns-else-tray-ge-TRAY_HEADER c = search rules
