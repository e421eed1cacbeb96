-- `trials::packing::pack` meets its contract: of three frames each takes one entry and no more bytes than the cut leaves.
use Rattle.std.proofs.Common.{◌≤◌, ◌+◌, ◌*◌}
use Rattle.trials.proofs.packing.pack.Given as goal

abbrev pub invariant-loop-packet : goal.invariant-loop-packet
invariant-loop-packet l = (l.tray.placed ≤ l.packet-index) × (l.tray.len ≤ 32 + 264 * l.packet-index)
