-- `controller::first::record_rounds` meets its contract: after j turns the record is the old one, moved to beside the first j numbers.
use Rattle.std.proofs.Common.{◌≡◌, take}
use Rattle.wire.specs.Numbers.{listed}
use Rattle.controller.specs.Work.First.{moved_to}
use Rattle.controller.proofs.first.record_rounds.Given as goal

abbrev pub invariant-loop-j : goal.invariant-loop-j
invariant-loop-j l = l.since ≡ moved_to (listed l.heard) (take l.j l.all.at) l.round l.old
