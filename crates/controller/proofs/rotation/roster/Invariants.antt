-- `controller::rotation::roster` meets its contract: after j turns the list has those of the first j heard that sent init.
--     sent_init s b x      whether x sent init
--     senders s b j        those of the first j heard that did
use Rattle.std.specs.Prelude.{ℕ, ◌≤◌, Bool, List, ◌≡◌, take}
use Rattle.controller.specs.Lists.{keep}
use Rattle.controller.specs.Received.{says}
use Rattle.controller.specs.Work.Received.{received_by}
use Rattle.controller.specs.declared.state.State.{State}
use Rattle.wire.specs.Limits.{max_numbers}
use Rattle.wire.specs.Numbers.{stored, listed}
use Rattle.controller.proofs.rotation.roster.Given as goal

abbrev pub sent_init : State → List ℕ → ℕ → Bool
sent_init s b x = says 1 2 ((received_by s b).from x)

abbrev pub senders : State → List ℕ → ℕ → List ℕ
senders s b j = keep (sent_init s b) (take j (listed s.heard))

abbrev pub invariant-loop-j : goal.invariant-loop-j
invariant-loop-j l = (l.j-end ≤ max_numbers) × (l.list.len ≤ l.j) × (l.list ≡ stored (senders l.state l.noted.tray.now l.j))
