-- `controller::received::hear_new` meets its contract: before each entry, those behind it are heard and noted.
use Rattle.wire.specs.Numbers.{listed}
use Rattle.controller.specs.Work.Received.{HearsFrom}
use Rattle.controller.proofs.received.hear_new.Given as goal

abbrev pub invariant-loop-i : goal.invariant-loop-i
invariant-loop-i l = HearsFrom l.own l.tray.bytes.now (listed l.initial.heard) l.heard l.notes l.i
