-- What the protocol gives of steps of the published rules: a decision by round 3 + 3n, the same for all, and brought in by a correct one; and before anybody
-- decides, what all have of a common king, and the relay of candidates.
-- Serves document 01's "The run of demand 3" and document 02's "A12. How often the line was truly of one mind". The steps are a coordinator rotation and a
-- bit instance over it; the rest is their laws.
use Rattle.std.specs.Prelude.{ℕ, suc, ◌+◌, ◌*◌, ◌≤◌, ◌<◌, true, false, ◌≡◌, refl, length}
use Rattle.std.proofs.Common.{ap, sym, ◌∙◌, subst, arith, le_refl}
use Rattle.std.proofs.lemmas.Bool.{not-true, not-false}
use Rattle.controller.specs.Lists.{In}
use Rattle.controller.specs.State.{undecided}
use Rattle.run.proofs.Argument.Rotation.{CommonKing, AllWork}
use Rattle.run.proofs.Argument.RotationLaws.{relay, decided_deadline}
use Rattle.run.proofs.Argument.BitLaws.{bits_agree, validity}
use Rattle.run.proofs.Argument.Steps.{Steps, all, AllActive, AtWork, StepRules}
use Rattle.run.proofs.Argument.StepsLaws.{candidate_stays}
pub use Rattle.run.proofs.Argument.StepsLaws.{echoes_short, reception_fits}
use Rattle.run.proofs.Argument.StepsRotation.{turn_round, turn_round_is, entering, rotation, before_same, work_turn, works_alive, rotation_rules}
use Rattle.run.proofs.Argument.StepsBit.{bits, bit_rules, first_value}

module _ (S : Steps) (K : StepRules S) where
  open S use {correct, input, state}

  -- after phase n
  abbrev last : ℕ
  last = suc (length (all S))

  -- phase r makes round 3 + 3r
  phase_state : (p r : ℕ) → state p (3 + 3 * r) ≡ entering S p (suc r)
  phase_state p r = ap (state p) (omega (arith, turn_round_is r))

  last_state : (p : ℕ) → state p (3 + 3 * length (all S)) ≡ entering S p last
  last_state p = phase_state p (length (all S))

  decided_last : {p : ℕ} → In p correct → (rotation S).decided p last ≡ true
  decided_last i = decided_deadline (rotation S) (rotation_rules S K) i

  pub deadline : (p : ℕ) → In p correct → undecided (state p (3 + 3 * length (all S))) ≡ false
  deadline p i = ap (λ v. undecided v) (last_state p) ∙ not-true _ (decided_last i)

  pub agree : (p q : ℕ) → In p correct → In q correct
      → (state p (3 + 3 * length (all S))).bit.decision ≡ (state q (3 + 3 * length (all S))).bit.decision
  agree p q i j =
      ap (λ v. v.bit.decision) (last_state p)
      ∙ bits_agree (rotation S) (rotation_rules S K) (bits S) (bit_rules S K) {s = last} {t = last} i j
      (le_refl last) (le_refl last) (decided_last i) (decided_last j)
      ∙ ap (λ v. v.bit.decision) (sym (last_state q))

  pub valid : (p : ℕ) → In p correct → (k : ℕ) × In k correct × ((state p (3 + 3 * length (all S))).bit.decision ≡ input k)
  valid p i =
      let (k, j, e) = validity (rotation S) (rotation_rules S K) (bits S) (bit_rules S K) {t = last} i (le_refl last) (decided_last i) in
      (k, j, ap (λ v. v.bit.decision) (last_state p) ∙ e ∙ first_value S K j)

  -- ---- before anybody decides

  -- in the phase of a common king nobody has decided
  pub common_active : {k r : ℕ} → CommonKing (rotation S) k r → AllActive S (3 + 3 * r)
  common_active {r = r} c p i = ap (λ v. undecided v) (phase_state p r) ∙ not-false _ (c.before p i)

  -- and all have it as their king
  pub common_named : {k r : ℕ} → CommonKing (rotation S) k r → (p : ℕ) → In p correct → (state p (3 + 3 * r)).rotor.king ≡ k
  common_named {r = r} c p i = ap (λ v. v.rotor.king) (phase_state p r) ∙ c.all_name p i

  -- a phase in which nobody has decided yet
  module _ {r : ℕ} (h : r < length (all S)) (active : AllActive S (3 + 3 * r)) where
    all_work : AllWork (rotation S) (suc r)
    all_work p i = works_alive S K i h (ap (λ v. undecided v) (sym (phase_state p r)) ∙ active p i)

    -- everybody works the trays of the phase to its end
    pub works_phase : (p : ℕ) → In p correct → AtWork S p (5 + 3 * r)
    works_phase p i = subst (AtWork S p) (omega (arith, turn_round_is r)) (work_turn S K (all_work p i))

    -- a candidate of one is everybody's in the next phase
    pub candidate_relayed : {p q t x : ℕ} → In p correct → In q correct → 1 ≤ t → t < 3 + 3 * suc r → In x (state p t).rotor.candidates
        → In x (state q (3 + 3 * suc r)).rotor.candidates
    candidate_relayed {p} {q} {t} {x} i j first early c =
        let w = all_work p i in
        let kept = candidate_stays S K i first (turn_round (suc r)) (omega (arith, turn_round_is r)) (work_turn S K w).timely c in
        let entered = subst (In x) (before_same S K (λ v. v.rotor.candidates) (λ v m. refl) (λ v m. refl) (suc r) w) kept in
        rw (phase_state q (suc r)) (relay (rotation S) (rotation_rules S K) r all_work p q i j entered)
