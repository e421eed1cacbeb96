-- Three runs: nobody need wonder whether the conditions of `Run` contradict each other, or whether more could be claimed of one mind.
--     alone           one controller
--     one_faulty      document 01's last trial
--     apart           a faulty one makes the proper ones stop at different rounds
--     Has r f         some proper one of the run r has a call that passes f; of these `faulty_short` and the like speak
--     apart_tight     in the run `apart` no more phases are of one mind than there are proper ones
--     faulty_later    in the run `one_faulty` a candidate of one is not everyone's in the same phase
use Rattle.std.specs.Prelude.{ℕ, zero, suc, ◌≤◌, ◌<◌, Bool, true, not, ◌&&◌, List, [], ◌∷◌, ◌≡◌, refl, eqb, ltb, length}
use Rattle.std.proofs.Math.Bool.{and-eq-true_iff}
use mathlib.Core.List.Memᴰ
use Rattle.std.proofs.Common.{sym, subst, arith, eqb-true, le-ltb}
use Rattle.std.proofs.Math.Decide.{dec_lt}
use Rattle.std.proofs.lemmas.Bool.{not-true, eqb-false}
use Rattle.controller.specs.Lists.{In, NoRepeats, mem}
use Rattle.controller.specs.Laws.Lists.{mem_in, mem_out, inside_length}
use Rattle.controller.specs.declared.state.State.{State}
use Rattle.run.specs.Run.{Member, TrayCall, Controller, states, Run}
use Rattle.run.specs.OneMind.{candidates, NobodyDecided, SameKing, RelayedAfter}
use Rattle.run.proofs.Argument.Calls.{returned_listed}
use Rattle.run.proofs.Inhabitants.RunTest.{all_pass, some_pass, all_pass_lem, some_pass_lem, or_right, run_tested}
use Rattle.run.proofs.Inhabitants.Networks.{one, joining, divided, call_test, refused, junked, quieted, stops, short, repeated, deserted}
use Rattle.run.proofs.Inhabitants.Networks.{undecided_test, knows, lacks, tested}

abbrev pub alone : Run
alone = run_tested one [] tested.one_run

abbrev pub one_faulty : Run
one_faulty = run_tested joining (3 ∷ []) tested.joining_run

abbrev pub apart : Run
apart = run_tested divided (3 ∷ []) tested.divided_run

-- some proper one of r has a call that passes f
abbrev pub Has : Run → (Controller → TrayCall → Bool) → Type 0
Has r f = (c : Controller) × Member c r.correct × (k : TrayCall) × Member k c.trays × (f c k ≡ true)

has_tested : (r : Run) (f : Controller → TrayCall → Bool) → call_test r.correct f ≡ true → Has r f
has_tested r f h =
    let (c, i, t) = some_pass_lem (λ (c : Controller). some_pass (f c) c.trays) r.correct h in
    let (k, j, u) = some_pass_lem (f c) c.trays t in
    (c, i, k, j, u)

pub alone_quieted : Has alone quieted
alone_quieted = has_tested alone quieted tested.one_quieted

pub faulty_junked : Has one_faulty junked
faulty_junked = has_tested one_faulty junked tested.joining_junked

pub faulty_short : Has one_faulty (short one_faulty.correct)
faulty_short = has_tested one_faulty (short joining) tested.joining_short

pub faulty_repeated : Has one_faulty (repeated one_faulty.correct)
faulty_repeated = has_tested one_faulty (repeated joining) tested.joining_repeated

-- "when proper controllers stop at different rounds"
pub apart_first : Has apart (stops 12)
apart_first = has_tested apart (stops 12) tested.divided_first

pub apart_last : Has apart (stops 15)
apart_last = has_tested apart (stops 15) tested.divided_last

pub apart_deserted : Has apart (deserted apart.correct)
apart_deserted = has_tested apart (deserted divided) tested.divided_deserted

-- ---- how often of one mind, and how soon

-- one has decided in round 12, which phase 3 makes
early_phase : {phase king : ℕ} → SameKing apart.correct phase king → phase < 3
early_phase {phase} same = elim (dec_lt phase 3) [
  | yes early ↦ early
  | no late ↦
      let (c, i, k, j, passed) = apart_first in
      let s = k.answer.state in
      let decided = not (eqb s.decision 2) in
      let (made, round) = (and-eq-true_iff (refused 0 k && decided) (eqb s.round 12)).0 passed in
      let undecided = same.before c i s (returned_listed c j) (omega (arith, eqb-true s.round 12 round)) in
      absurd (eqb-false _ _ (not-true _ ((and-eq-true_iff (refused 0 k) decided).0 made).1) undecided)
]

first_three : (phase : ℕ) → phase < 3 → In phase (0 ∷ 1 ∷ 2 ∷ [])
first_three zero h = Memᴰ.head refl
first_three (suc zero) h = Memᴰ.tail (Memᴰ.head refl)
first_three (suc (suc zero)) h = Memᴰ.tail (Memᴰ.tail (Memᴰ.head refl))
first_three (suc (suc (suc phase))) h = absurd (omega (arith, h))

-- document 02, A12: "at least g phases", and here no more, though a faulty one lies
pub apart_tight : (phases : List ℕ) → NoRepeats phases → ((phase : ℕ) → In phase phases → (king : ℕ) × SameKing apart.correct phase king)
    → length phases ≤ length apart.correct
apart_tight phases differ same = inside_length phases differ (λ phase i. first_three phase (early_phase (same phase i).1))

nobody_decided : NobodyDecided one_faulty.correct 3
nobody_decided c i s j early =
    let all = all_pass_lem (λ (c : Controller). all_pass (undecided_test 3) (states c)) one_faulty.correct tested.joining_undecided c i in
    eqb-true _ _ (or_right (ltb 3 s.round) _ (all_pass_lem (undecided_test 3) (states c) all s j) (le-ltb 3 s.round early))

-- "by the next phase", and here not in the same: in phase 0 one has the candidate 3 and another has not
pub faulty_later : ¬ RelayedAfter 0 one_faulty.correct
faulty_later claim =
    let (c, i, k, j, knowing) = has_tested one_faulty (knows 3 3) tested.joining_knows in
    let (d, l, m, n, lacking) = has_tested one_faulty (lacks 3 3) tested.joining_lacks in
    let (s, u) : State × State = (k.answer.state, m.answer.state) in
    let (here, has) = (and-eq-true_iff (eqb s.round 3) (mem 3 (candidates s))).0 knowing in
    let (there, has-not) = (and-eq-true_iff (eqb u.round 3) (not (mem 3 (candidates u)))).0 lacking in
    let now = claim 0 nobody_decided c i s (returned_listed c j) (omega (arith, eqb-true s.round 3 here)) 3 (mem_in (candidates s) has) d l in
    let same = now.only u (returned_listed d n) (eqb-true u.round 3 there) in
    mem_out (candidates u) (not-true _ has-not) (subst (λ (v : State). In 3 (candidates v)) (sym same) now.has)
