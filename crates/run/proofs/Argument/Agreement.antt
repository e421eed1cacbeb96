-- Demand 3: every run has the outcome that document 01 claims. The run is steps of the published rules, for which the protocol gives the deadline,
-- agreement, validity and the lists' bounds; a decided state stays, whatever the trays.
use Rattle.std.proofs.lemmas.Bool.{eqb-false}
use Rattle.std.specs.Prelude.{ℕ, ◌+◌, ◌*◌, ◌≤◌, true, List, ◌⊎◌, ◌≢◌, ◌≡◌, refl, leb, length}
use Rattle.std.proofs.Common.{inl, inr, ◌∙◌, arith, length-append}
use Rattle.std.proofs.Math.Path.{sym, ap, subst}
use Rattle.controller.specs.Bytes.{max_frame, Entry, entries}
use Rattle.controller.specs.Lists.{In}
use Rattle.controller.specs.State.{View, view, undecided}
use Rattle.controller.specs.Received.{receive}
use Rattle.controller.specs.Rules.{next}
use Rattle.controller.specs.Laws.Lists.{true_or_false, list_some}
use Rattle.controller.specs.Laws.Refusals.{Fits, tray_fits}
use Rattle.controller.specs.declared.state.State.{State}
use Rattle.run.specs.Run.{Member, TrayCall, Controller, states, Sent, numbers, Delivers, Run}
use Rattle.run.specs.Outcome.{Decides, Outcome}
use Rattle.run.proofs.Argument.Steps.{AtWork}
use Rattle.run.proofs.Argument.Protocol.{deadline, agree, valid, reception_fits}
use Rattle.run.proofs.Argument.Calls.{state_round, state_own, state_sound, sent_state, decides_by}
use Rattle.run.proofs.Argument.Held.{at_most}
use Rattle.run.proofs.Argument.RunSteps.{size, steps, state_held, input_at, state_at, each_number, correct_number, delivers_reception, step_rules}

module _ (r : Run) where
  open r use {correct, faulty}
  open steps r use {correct as correct_numbers, input, state}

  -- 3f < n, so somebody is proper
  somebody : (p : ℕ) × In p correct_numbers
  somebody = list_some correct_numbers (omega (arith, r.few, length-append (numbers correct) faulty))

  -- ---- decisions

  -- the decision of p's state of round 3 + 3n
  decision_of : ℕ → ℕ
  decision_of p = (state p (3 + 3 * size r)).bit.decision

  decision_made : (p : ℕ) → In p correct_numbers → decision_of p ≢ 2
  unfolding decision_of
  decision_made p i = eqb-false _ _ (deadline (steps r) (step_rules r) p i)

  decision_decides : (p : ℕ) → In p correct_numbers → (c : Controller) → Member c correct → Decides (size r) (decision_of p) c
  unfolding decision_of
  decision_decides p i c j =
      let m = state_held r j (3 + 3 * size r) (omega arith) (omega arith) in
      let s = m.held in
      let own : decision_of c.number ≡ s.decision = ap (λ (v : View). v.bit.decision) (state_at r j s m.listed m.at) in
      let same : s.decision ≡ decision_of p = sym own ∙ agree (steps r) (step_rules r) c.number p (correct_number r j) i in
      subst (λ b. Decides (size r) b c) same (decides_by c (size r) s m.listed (at_most s m.at) (λ e. decision_made p i (sym same ∙ e)))

  decision_valid : (p : ℕ) → In p correct_numbers → (c : Controller) × Member c correct × (c.start.bit ≡ decision_of p)
  unfolding decision_of
  decision_valid p i =
      let (k, j, e) = valid (steps r) (step_rules r) p i in
      each_number r (λ q. decision_of p ≡ input q → (c : Controller) × Member c correct × (c.start.bit ≡ decision_of p))
      (λ c l d. (c, l, sym (d ∙ input_at r l))) k j e

  -- ---- refusals

  -- the lists that a tray es would make of the state v have at most n numbers each
  abbrev ListsFit : View → List Entry → Type 0
  ListsFit v es =
      (length (receive v es).heard ≤ size r)
      × (length (next v es).rotor.candidates ≤ size r)
      × (length (next v es).rotor.echoes ≤ size r)

  -- a state for whose round the controller sent a frame is one that it works a tray with
  pub state_works : {c : Controller} → Member c correct → (s : State) → Member s (states c) → s.round ≤ 2 + 3 * size r → {b : List ℕ} → Sent c s.round b
      → AtWork (steps r) c.number s.round
  state_works {c} i s j h sent =
      let f = sent_state c sent in
      record {
        member = correct_number r i;
        timely = record { first = state_round c s j; last = h };
        active = ap (λ v. undecided v) (state_at r i f.state f.listed (inl f.round)) ∙ f.active;
      }

  delivers_fits : {c : Controller} → Member c correct → (s : State) → Member s (states c) → AtWork (steps r) c.number s.round
      → (b : List ℕ) → Delivers correct faulty c.number s.round b → Fits s b
  delivers_fits {c} i s j w b d =
      let p = c.number in
      let at = state_at r i s j (inl refl) in
      let got = delivers_reception r p s.round w b d in
      let lists : ListsFit (view s) (entries b) =
      subst (λ v. ListsFit v (entries b)) at (reception_fits (steps r) (step_rules r) p s.round w _ got) in
      record {
        state = state_sound c s j;
        early = omega (arith, r.network.size.1, w.timely.last);
        active = subst (λ v. undecided v ≡ true) at w.active;
        packed = d.packed;
        round = d.round;
        nonzero = λ z. r.network.nonzero 0 (d.others 0 z).0 refl;
        others = λ z. (d.others s.own z).1 (state_own c s j);
        heard = omega (arith, r.network.size.1);
        candidates = omega (arith, r.network.size.1);
        echoes = omega (arith, r.network.size.1);
      }

  refused_room : (c : Controller) → Member c correct → (k : TrayCall) → Member k.state (states c) → k.state.round ≤ 2 + 3 * size r
      → (b : List ℕ) → Sent c k.state.round b
      → Delivers correct faulty c.number k.state.round k.tray → (k.answer.refusal ≡ 0) ⊎ (k.answer.refusal ≡ 3)
  refused_room c i k j h b sent d =
      let fits = delivers_fits i k.state j (state_works i k.state j h sent) k.tray d in
      let e = k.promise.number ∙ tray_fits k.state k.tray (length k.before) fits in
      elim (true_or_false (leb max_frame (length k.before))) [ inl t ↦ inl (rw t at e) | inr t ↦ inr (rw t at e) ]

  -- demand 3
  pub agreement : Outcome correct faulty
  agreement =
      let (p, i) = somebody in
      record {
        bit = decision_of p;
        decided = decision_made p i;
        agreement = decision_decides p i;
        validity = decision_valid p i;
        refusals = refused_room;
      }
