-- `controller::received::senders_fit` meets its contract: the senders that are left fit exactly if all do.
--     rest b n i      the senders from entry i on, of n
use Rattle.std.specs.Prelude.{ℕ, ◌-◌, List, ◌≡◌}
use Rattle.controller.specs.Received.{senders}
use Rattle.controller.specs.Work.Received.{others_only}
use Rattle.wire.specs.Tray.{entries_from, entries}
use Rattle.controller.proofs.received.senders_fit.Given as goal

abbrev pub rest : List ℕ → ℕ → ℕ → List ℕ
rest b n i = senders (entries_from b (n - i) i)

abbrev pub invariant-loop-i : goal.invariant-loop-i
invariant-loop-i l = others_only l.own (rest l.tray l.i-end l.i) ≡ others_only l.own (senders (entries l.tray))
