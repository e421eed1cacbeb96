-- What the two ways of the tally share: they start from no echoes and the candidates that were, for those heard, and what is sorted by counts of the lists
-- under the notes is sorted by those of the received ones.
use Rattle.std.specs.Prelude.{ℕ, ◌<◌, List, [], ◌≡◌, length, Option}
use Rattle.std.proofs.Common.{◌∙◌, arith}
use Rattle.wire.specs.Numbers.{stored, listed}
use Rattle.wire.specs.Tray.{entries}
use Rattle.controller.specs.Laws.Received.{heard_some}
use Rattle.controller.specs.Laws.State.{rules_candidates, rules_give}
use Rattle.controller.specs.Laws.Work.Opened.{under_tally}
use Rattle.controller.specs.Laws.Work.Ready.{ready_few, ready_size}
use Rattle.controller.specs.Received.{lists}
use Rattle.controller.specs.Rotation.{tally}
use Rattle.controller.specs.State.{view}
use Rattle.controller.specs.Work.Opened.{noted_list, having}
use Rattle.controller.specs.Work.Received.{received_by, Ready}
use Rattle.controller.specs.Work.Tally.{Sorts, Startable}
use Rattle.controller.specs.declared.state.State.{State}
use Rattle.controller.specs.declared.tally.Settled.{Settled}

module _ {s : State} {b t : List ℕ} (ready : Ready s b t) where
  pub somebody : 0 < s.heard.len
  somebody = omega (arith, ready_size ready, heard_some (view s) (entries b) (rules_give s ready.sound))

  pub starts : {r : Settled} → r.echoed ≡ stored [] → r.candidates ≡ s.candidates → r.place ≡ 0 → Startable r s.heard.len
  starts empty same place =
      record { most = ready_few ready; some = somebody; empty = empty; candidates = rw same (rules_candidates s ready.sound); place = place }

  pub tallied : (v : ℕ → ℕ) (o : Option Unit) (r : Settled) → ((x : ℕ) → v x ≡ having (noted_list s b t) s.heard.len x)
      → Sorts v s.heard.len (listed s.candidates) o r
      → Sorts (tally (lists (received_by s b))) (length (received_by s b).heard) (listed s.candidates) o r
  tallied v o r counts sorts =
      let same : v ≡ tally (lists (received_by s b)) = λ i x. (counts x ∙ under_tally ready x) i in
      rw (← same, ← ready_size ready) sorts
