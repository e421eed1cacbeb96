-- Why demand 3 wants 3f < n: with 3f = n there is a network that meets every other condition of a run, and in it two proper controllers decide differently.
-- The faulty third agrees with each of the two in every round.
--     bound_needed      not every network with 3f ≤ n has the outcome that every run has
use Rattle.std.specs.Prelude.{ℕ, ◌*◌, ◌≤◌, List, [], ◌∷◌, ◌++◌, true, ◌≢◌, ◌≡◌, refl, eqb, leb, length}
use mathlib.Core.List.Memᴰ
use Rattle.std.proofs.Math.Bool.{and-eq-true_iff}
use Rattle.std.proofs.Common.{inl, inr, sym, ap, ◌∙◌, subst, arith, eqb-true, leb-true}
use Rattle.controller.specs.declared.state.State.{State}
use Rattle.run.specs.Run.{Member, Controller, states, everyone, Network}
use Rattle.run.specs.Outcome.{Decides, Outcome}
use Rattle.run.proofs.Argument.Calls.{decides_by}
use Rattle.run.proofs.Inhabitants.RunTest.{some_pass, some_pass_lem, network_tested}
use Rattle.run.proofs.Inhabitants.Networks.{five, seven, flattered, decided_test, tested}

-- one of three is faulty
abbrev pub a_third_faulty : Network flattered (3 ∷ [])
a_third_faulty = network_tested flattered (3 ∷ []) tested.flattered_network

-- ---- two decisions

decides_tested : (b : ℕ) → b ≢ 2 → (c : Controller) → some_pass (decided_test 12 b) (states c) ≡ true → Decides 3 b c
decides_tested b made c h =
    let (s, i, t) = some_pass_lem (decided_test 12 b) (states c) h in
    let (decision, round) = (and-eq-true_iff (eqb s.decision b) (leb s.round 12)).0 t in
    let e = eqb-true _ _ decision in
    subst (λ b. Decides 3 b c) e (decides_by c 3 s i (leb-true _ _ round) (λ two. made (sym e ∙ two)))

pub five_decides : Decides 3 0 five
five_decides = decides_tested 0 (λ e. omega arith) five tested.five_decides

pub seven_decides : Decides 3 1 seven
seven_decides = decides_tested 1 (λ e. omega arith) seven tested.seven_decides

-- ---- so there is no outcome

-- one controller decides one bit
decides_one : {n a b : ℕ} {c : Controller} → Decides n a c → a ≢ 2 → Decides n b c → a ≡ b
decides_one {n} {a} {b} {c} x made y =
    let s = x.deciding in
    let listed : Member s (y.earlier ++ y.deciding ∷ y.later) =
    subst (Member s) y.order (subst (Member s) (sym x.order) (Memᴰ.append_right x.earlier (Memᴰ.head refl))) in
    sym x.decision ∙ elim (Memᴰ.append_cases y.earlier listed) [
      | inl i ↦ absurd (made (sym x.decision ∙ y.undecided s i))
      | inr i ↦ elim (Memᴰ.cases_cons i) [ inl e ↦ ap (λ (u : State). u.decision) e ∙ y.decision | inr j ↦ y.kept s j ]
    ]

-- 3f ≤ n in place of "3f < n"
pub bound_needed : ¬ ((correct : List Controller) (faulty : List ℕ) → Network correct faulty → 3 * length faulty ≤ length (everyone correct faulty)
    → Outcome correct faulty)
bound_needed claim =
    let outcome = claim flattered (3 ∷ []) a_third_faulty (omega arith) in
    let zero = decides_one five_decides (λ e. omega arith) (outcome.agreement five (Memᴰ.head refl)) in
    let one = decides_one seven_decides (λ e. omega arith) (outcome.agreement seven (Memᴰ.tail (Memᴰ.head refl))) in
    omega arith
