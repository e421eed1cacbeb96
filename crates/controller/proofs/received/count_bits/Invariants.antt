-- `controller::received::count_bits` meets its contract: after j turns the two totals are the counts over the first j of those heard.
--     counted s b bit x      whether the frame received under x is counted
--     total s b bit j        those counted among the first j
use Rattle.std.specs.Prelude.{ℕ, ◌≤◌, Bool, List, ◌≡◌, take}
use Rattle.controller.specs.Lists.{count_if}
use Rattle.controller.specs.Received.{says}
use Rattle.controller.specs.Work.Received.{received_by}
use Rattle.controller.specs.declared.state.State.{State}
use Rattle.wire.specs.Frame.{kind_of}
use Rattle.wire.specs.Numbers.{listed}
use Rattle.controller.proofs.received.count_bits.Given as goal

abbrev pub counted : State → List ℕ → ℕ → ℕ → Bool
counted s b bit x = says (kind_of s.round) bit ((received_by s b).from x)

abbrev pub total : State → List ℕ → ℕ → ℕ → ℕ
total s b bit j = count_if (counted s b bit) (take j (listed s.heard))

abbrev pub invariant-loop-note : goal.invariant-loop-note
invariant-loop-note l = (l.zeros ≤ l.note-index)
    × (l.ones ≤ l.note-index)
    × (l.zeros ≡ total l.state l.noted.tray.now 0 l.note-index)
    × (l.ones ≡ total l.state l.noted.tray.now 1 l.note-index)
