-- `wire::tray::frames_follow` meets its contract: the frames that are left follow each other exactly if all do. An offset is below 2 ^ 16, so no end wraps.
use Rattle.std.proofs.Common.{◌-◌}
use Rattle.std.proofs.Math.Path.{◌≡◌}
use Rattle.wire.specs.Tray.{entry_at, chained}
use Rattle.wire.proofs.tray.frames_follow.Given as goal

abbrev pub invariant-loop-i : goal.invariant-loop-i
invariant-loop-i l = chained l.tray (l.count - l.i) l.i l.end ≡ chained l.tray l.count 0 (entry_at l.count)
