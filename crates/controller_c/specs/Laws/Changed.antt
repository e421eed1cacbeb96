-- Laws of what a step changes: it leaves those parts of the state as they were that a tray's call does not store.
--     heard_kept         where no more are heard than before, they are the same ones, and the record beside them is the same
--     rotation_kept      candidates and echoes are the same, but where a roster or a value is made
--     tray_lays_over     so the changes of a step that is not refused can be stored over the image of the state before
use Rattle.std.specs.Prelude.{ℕ, ◌+◌, ◌<◌, true, List, ◌≡◌}
use Rattle.std.proofs.Common.{inr, sym, ap, ◌∙◌, arith}
use Rattle.std.proofs.Math.Decide.{ℕ_discrete}
use Rattle.wire.specs.Frame.{kind_of}
use Rattle.wire.specs.Laws.Frame.{kind_range}
use Rattle.wire.specs.Laws.Numbers.{listed_stored}
use Rattle.wire.specs.Numbers.{stored, listed}
use Rattle.wire.specs.Tray.{Entry, entries}
use Rattle.controller.specs.First.{rounds_after}
use Rattle.controller.specs.Laws.First.{next_stays_sound}
use Rattle.controller.specs.Laws.Received.{heard_in_lem}
use Rattle.controller.specs.Laws.Refusals.{Fits, tray_accepted}
use Rattle.controller.specs.Laws.Rules.{step_round, step_heard, step_kind_propose, step_kind_turn}
use Rattle.controller.specs.Laws.State.{sound_list_gives, sound_rules_lem, rules_heard, rules_stored, since_places}
use Rattle.controller.specs.Laws.Work.Moved.{grown_same, moved_same, moved_recorded}
use Rattle.controller.specs.Received.{Received, receive}
use Rattle.controller.specs.Refusals.{tray_refusal}
use Rattle.controller.specs.Rules.{next}
use Rattle.controller.specs.State.{view, stored_state}
use Rattle.controller.specs.Work.First.{moved_to, Grown}
use Rattle.controller.specs.declared.state.State.{State}
use Rattle.controller_c.specs.Image.{taken_apart, shaped, sound_image, LaysOver}
use Rattle.controller_c.specs.Laws.Calls.{tray_makes}

-- the step of the state s with the tray b, which fits
module _ (s : State) (b : List ℕ) (f : Fits s b) where
  abbrev es : List Entry
  es = entries b

  abbrev received : Received
  received = receive (view s) es

  abbrev made : State
  made = stored_state (next (view s) es) (rounds_after s es)

  made_heard : listed made.heard ≡ received.heard
  made_heard = listed_stored _ ∙ step_heard (view s) received

  -- nobody is dropped
  grown : Grown s.heard made.heard
  grown =
      record {
        fewer = rules_heard s (sound_rules_lem s f.state);
        more = rules_heard made (sound_rules_lem made (next_stays_sound s b f));
        inside = λ x i. rw made_heard ((heard_in_lem (view s) es).1 (inr i));
      }

  heard_kept : made.heard.len ≡ s.heard.len → (s.heard ≡ made.heard) × (s.since ≡ made.since)
  heard_kept e =
      let same : made.heard ≡ s.heard = grown_same s.heard made.heard grown (omega arith) in
      let members : received.heard ≡ listed s.heard = sym made_heard ∙ ap listed same in
      let list = (sound_list_gives s.heard grown.fewer).list in
      let stays = moved_same (listed s.heard) s.since s.round list.rises (omega (arith, list.short, since_places s f.state)) in
      let moved : moved_to (listed s.heard) (listed s.heard) s.round s.since ≡ made.since =
      rw members at (moved_recorded s es f.state) in
      (sym same, sym stays ∙ moved)

  rotation_kept : 3 < kind_of made.round → (s.candidates ≡ made.candidates) × (s.echoes ≡ made.echoes)
  rotation_kept l =
      let back = sym (rules_stored s (sound_rules_lem s f.state)) in
      let kept : (s.candidates ≡ stored (listed s.candidates)) × (s.echoes ≡ stored (listed s.echoes)) =
      (ap (λ (t : State). t.candidates) back, ap (λ (t : State). t.echoes) back) in
      let later : 3 < kind_of (s.round + 1) = rw (step_round (view s) received) at l in
      elim (ℕ_discrete (kind_of (s.round + 1)) 4) [
        | yes e ↦ rw (step_kind_propose (view s) received e) kept
        | no d ↦ rw (step_kind_turn (view s) received (omega (arith, kind_range (s.round + 1)))) kept
      ]

pub tray_lays_over : (b t : List ℕ) (n : ℕ) → shaped b ≡ true → tray_refusal (taken_apart b) t n ≡ 0
    → let s = taken_apart b in
    LaysOver s.heard.len (stored_state (next (view s) (entries t)) (rounds_after s (entries t))) b
unfolding sound_image
tray_lays_over b t n h e =
    let f = (tray_accepted (taken_apart b) t n e).0 in
    record {
      image = rw h f.state;
      made = tray_makes (taken_apart b) t n e;
      heard = heard_kept (taken_apart b) t f;
      rotation = rotation_kept (taken_apart b) t f;
    }
