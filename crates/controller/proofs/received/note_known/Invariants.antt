-- `controller::received::note_known` meets its contract: before each entry, those behind it are known and noted.
use Rattle.std.specs.Prelude.{◌≤◌}
use Rattle.wire.specs.Numbers.{listed}
use Rattle.controller.specs.Work.Received.{HearsFrom}
use Rattle.controller.proofs.received.note_known.Given as goal

abbrev pub invariant-loop-i : goal.invariant-loop-i
invariant-loop-i l = (l.place ≤ l.heard.len) × HearsFrom l.own l.tray.bytes.now (listed l.heard) l.heard l.notes l.i
