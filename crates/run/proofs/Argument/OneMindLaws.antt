-- What `one_mind` is made of: who has decided, by the calls and by the steps; a king that all name; and the relay of candidates. The states are those that the
-- calls returned.
use Rattle.std.specs.Prelude.{ℕ, suc, ◌+◌, ◌*◌, ◌≤◌, ◌<◌, true, ◌≡◌, refl}
use Rattle.std.proofs.Common.{true≢false, inl, inr, sym, ap, ◌∙◌, subst, arith, eqb-true, eq-eqb}
use Rattle.std.proofs.Math.Decide.{dec_lt}
use Rattle.controller.specs.Lists.{In}
use Rattle.controller.specs.State.{View, view, undecided}
use Rattle.controller.specs.Laws.Lists.{true_or_false}
use Rattle.controller.specs.declared.state.State.{State}
use Rattle.run.specs.Run.{Member, Controller, states, Run}
use Rattle.run.specs.OneMind.{NobodyDecided, InRound, SameKing, RelayedAfter}
use Rattle.run.proofs.Argument.Rotation.{CommonKing}
use Rattle.run.proofs.Argument.Steps.{AllActive}
use Rattle.run.proofs.Argument.StepsRotation.{rotation}
use Rattle.run.proofs.Argument.Protocol.{deadline, common_active, common_named, works_phase, candidate_relayed}
use Rattle.run.proofs.Argument.Calls.{accepted_round, returned_listed, state_round, state_one}
use Rattle.run.proofs.Argument.Held.{at_most, of_round}
use Rattle.run.proofs.Argument.RunSteps.{size, steps, state_held, state_at, call_made, each_number, correct_number, step_rules}

module _ (r : Run) where
  open r use {correct}
  open steps r use {state}

  -- ---- who has decided, by the calls and by the steps

  nobody_active : (t : ℕ) → 1 ≤ t → t ≤ 3 + 3 * size r → NobodyDecided correct t → AllActive (steps r) t
  nobody_active t first last nobody = each_number r (λ p. undecided (state p t) ≡ true)
      (λ c i.
      let m = state_held r i t first last in
      rw (state_at r i m.held m.listed m.at) (eq-eqb _ _ (nobody c i m.held m.listed (at_most m.held m.at))))

  active_nobody : (t : ℕ) → AllActive (steps r) t → NobodyDecided correct t
  active_nobody t active c i s j early = elim (true_or_false (undecided (view s))) [
    | inl u ↦ eqb-true _ _ u
    | inr d ↦
        let kept = ap (λ (v : View). undecided v) (state_at r i s j (inr (early, d))) in
        absurd (true≢false (sym (active c.number (correct_number r i)) ∙ kept ∙ d))
  ]

  -- while nobody has decided the deadline is not reached
  nobody_early : {c : Controller} → Member c correct → (phase : ℕ) → NobodyDecided correct (3 + 3 * phase) → phase < size r
  nobody_early {c} i phase nobody = elim (dec_lt phase (size r)) [
    | yes early ↦ early
    | no late ↦
        let before : NobodyDecided correct (3 + 3 * size r) = λ d j s k l. nobody d j s k (omega arith) in
        let active = nobody_active (3 + 3 * size r) (omega arith) (omega arith) before c.number (correct_number r i) in
        absurd (true≢false (sym active ∙ deadline (steps r) (step_rules r) c.number (correct_number r i)))
  ]

  -- ---- a controller's one state of a round

  in_round : {c : Controller} {t : ℕ} {P : State → Type 0} → (s : State) → Member s (states c) → s.round ≡ t → P s → InRound c t P
  in_round {c} s i e has = record { state = s; listed = i; round = e; has = has; only = λ u j f. state_one c u s j i (f ∙ sym e) }

  pub same_king : {phase king : ℕ} → CommonKing (rotation (steps r)) king phase → SameKing correct phase king
  same_king {phase} {king} common =
      let active = common_active (steps r) (step_rules r) common in
      record {
        before = active_nobody (3 + 3 * phase) active;
        named = λ c i.
            let j = correct_number r i in
            let m = state_held r i (3 + 3 * phase) (omega arith) (omega (arith, common.early)) in
            let at = state_at r i m.held m.listed m.at in
            let u = subst (λ v. undecided v ≡ true) at (active c.number j) in
            let named = common_named (steps r) (step_rules r) common c.number j in
            in_round m.held m.listed (of_round m.held m.at u) (subst (λ (v : View). v.rotor.king ≡ king) at named);
      }

  pub relayed : RelayedAfter 1 correct
  relayed phase nobody c i s j early x has d k =
      let h = nobody_early i phase nobody in
      let active = nobody_active (3 + 3 * phase) (omega arith) (omega arith) nobody in
      let call = call_made r k (5 + 3 * phase) (works_phase (steps r) (step_rules r) h active d.number (correct_number r k)) in
      let made = call.call.answer.state in
      let listed = returned_listed d call.listed in
      let round : made.round ≡ suc (5 + 3 * phase) = accepted_round call.call call.accepted ∙ ap suc call.round in
      let Has : View → Type 0 = λ v. In x v.rotor.candidates in
      let given = subst Has (sym (state_at r i s j (inl refl))) has in
      let then = candidate_relayed (steps r) (step_rules r) h active (correct_number r i) (correct_number r k) (state_round c s j) early given in
      in_round made listed (omega (arith, round)) (subst Has (state_at r k made listed (inl (omega (arith, round)))) then)
