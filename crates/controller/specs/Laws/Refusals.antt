-- Laws of refusals: what an accepted start or tray passed.
use Rattle.std.specs.Prelude.{ℕ, zero, suc, ◌<◌, ◌≤◌, Bool, true, false, not, cond, ◌&&◌, List, [], ◌∷◌, ◌++◌, ◌≢◌, ◌↔◌, ◌≡◌, refl, leb, ltb, eqb}
use Rattle.std.specs.Prelude.{length, get_or}
use Rattle.std.proofs.Math.Bool.{and-false, and-eq-true_iff}
use Rattle.std.proofs.Common.{sym, ◌∙◌, arith, ltb-true, leb-true, eqb-true, lt-ltb, le-leb, eq-eqb}
use Rattle.std.proofs.lemmas.Bool.{eqb-false, not-true}
use Rattle.wire.specs.Limits.{max_numbers, max_frame, last_round}
use Rattle.wire.specs.Refusal.{first_failed}
use Rattle.wire.specs.Tray.{Entry, well_formed, round_of, entries}
use Rattle.controller.specs.Lists.{In, mem}
use Rattle.controller.specs.State.{View, view, undecided, sound}
use Rattle.controller.specs.Received.{senders, receive}
use Rattle.controller.specs.Rules.{next}
use Rattle.controller.specs.Refusals.{start_refusal, works_on, senders_fit, heard_fit, lists_fit, tray_refusal}
use Rattle.controller.specs.Laws.Lists.{out_mem, mem_out}
use Rattle.controller.specs.declared.state.State.{State}

-- ---- a chain of tests

abbrev pub Numbered : List (Bool × ℕ) → Type 0
Numbered [] = Unit {0}
Numbered (t ∷ ts) = (0 < t.1) × Numbered ts

-- where no test failed, the one at place i passed
pub test_passed : (ts : List (Bool × ℕ)) → Numbered ts → first_failed ts ≡ 0 → (i : ℕ) → (get_or ts i (true, 0)).0 ≡ true
test_passed [] n e i = refl
test_passed ((false, k) ∷ ts) n e i = absurd (omega arith)
test_passed ((true, k) ∷ ts) n e zero = refl
test_passed ((true, k) ∷ ts) n e (suc i) = test_passed ts n.1 e i

-- ---- start

-- what a start that is not refused passed
pub start_accepted : (number bit n : ℕ) → start_refusal number bit n ≡ 0 → (number ≢ 0) × (bit ≤ 1) × (max_frame ≤ n)
unfolding start_refusal
start_accepted number bit n e =
    let passed = test_passed ((not (eqb number 0) && leb bit 1, 9) ∷ (leb max_frame n, 3) ∷ []) (omega arith) e in
    let first = (and-eq-true_iff (not (eqb number 0)) (leb bit 1)).0 (passed 0) in
    (eqb-false number 0 (not-true (eqb number 0) first.0), leb-true bit 1 first.1, leb-true max_frame n (passed 1))

-- ---- tray

-- the tests 1 to 7; the eighth alone reads what the frames say
abbrev pub earlier_tests : State → List ℕ → ℕ → List (Bool × ℕ)
earlier_tests s b n =
    (sound s, 1)
    ∷ (works_on (view s), 2)
    ∷ (leb max_frame n, 3)
    ∷ (well_formed b, 4)
    ∷ (eqb (round_of b) s.round, 5)
    ∷ (senders_fit (view s) (entries b), 6)
    ∷ (heard_fit (view s) (entries b), 7)
    ∷ []

pub tray_refusal_is : (s : State) (b : List ℕ) (n : ℕ) → tray_refusal s b n ≡ first_failed (earlier_tests s b n ++ ((lists_fit (view s) (entries b), 8) ∷ []))
unfolding tray_refusal
tray_refusal_is s b n = refl

-- all that an accepted tray passes, but for the room in the output buffer (3)
pub record Fits (s : State) (b : List ℕ) : Type 0 where
  pub state : sound s ≡ true
  pub early : s.round < last_round
  pub active : undecided (view s) ≡ true
  pub packed : well_formed b ≡ true
  pub round : round_of b ≡ s.round
  pub nonzero : ¬ In 0 (senders (entries b))
  pub others : ¬ In s.own (senders (entries b))
  pub heard : length (receive (view s) (entries b)).heard ≤ max_numbers
  pub candidates : length (next (view s) (entries b)).rotor.candidates ≤ max_numbers
  pub echoes : length (next (view s) (entries b)).rotor.echoes ≤ max_numbers

pub lists_fit_lem : (v : View) (es : List Entry)
    → (lists_fit v es ≡ true) ↔ ((length (next v es).rotor.candidates ≤ max_numbers) × (length (next v es).rotor.echoes ≤ max_numbers))
lists_fit_lem v es =
    let both = and-eq-true_iff (leb (length (next v es).rotor.candidates) max_numbers) (leb (length (next v es).rotor.echoes) max_numbers) in (
      λ t. (leb-true _ _ (both.0 t).0, leb-true _ _ (both.0 t).1),
      λ l. both.1 (le-leb _ _ l.0, le-leb _ _ l.1),
    )

-- a tray that passes test 6 has neither 0 nor oneself among its senders
pub senders_fit_lem : (v : View) (es : List Entry) → senders_fit v es ≡ true → (¬ In 0 (senders es)) × (¬ In v.own (senders es))
senders_fit_lem v es h =
    let both = (and-eq-true_iff (not (mem 0 (senders es))) (not (mem v.own (senders es)))).0 h in
    (mem_out (senders es) (not-true _ both.0), mem_out (senders es) (not-true _ both.1))

pub tray_accepted : (s : State) (b : List ℕ) (n : ℕ) → tray_refusal s b n ≡ 0 → Fits s b × (max_frame ≤ n)
tray_accepted s b n e =
    let es = entries b in
    let passed = test_passed (earlier_tests s b n ++ ((lists_fit (view s) es, 8) ∷ [])) (omega arith) (sym (tray_refusal_is s b n) ∙ e) in
    let second = (and-eq-true_iff (ltb s.round last_round) (undecided (view s))).0 (passed 1) in
    let sixth = senders_fit_lem (view s) es (passed 5) in
    let eighth = (lists_fit_lem (view s) es).0 (passed 7) in (
      record {
        state = passed 0;
        early = ltb-true s.round last_round second.0;
        active = second.1;
        packed = passed 3;
        round = eqb-true (round_of b) s.round (passed 4);
        nonzero = sixth.0;
        others = sixth.1;
        heard = leb-true (length (receive (view s) es).heard) max_numbers (passed 6);
        candidates = eighth.0;
        echoes = eighth.1;
      },
      leb-true max_frame n (passed 2),
    )

-- a tray that passes all of these is refused under 3 or not at all
pub tray_fits : (s : State) (b : List ℕ) (n : ℕ) → Fits s b → tray_refusal s b n ≡ cond (leb max_frame n) 0 3
unfolding tray_refusal
tray_fits s b n f =
    let es = entries b in
    rw (
      f.state,
      lt-ltb s.round last_round f.early,
      f.active,
      f.packed,
      eq-eqb (round_of b) s.round f.round,
      out_mem (senders es) f.nonzero,
      out_mem (senders es) f.others,
      le-leb (length (receive (view s) es).heard) max_numbers f.heard,
      (lists_fit_lem (view s) es).1 (f.candidates, f.echoes),
    )

-- a sound state that has decided refuses each tray under 2
pub decided_refused : (s : State) (b : List ℕ) (n : ℕ) → sound s ≡ true → undecided (view s) ≡ false → tray_refusal s b n ≡ 2
unfolding tray_refusal
decided_refused s b n h u = rw (h, u, and-false (ltb s.round last_round))

-- a state that is not sound refuses each tray alike
pub unsound_refused : (s : State) (b : List ℕ) (n : ℕ) → sound s ≡ false → tray_refusal s b n ≡ 1
unfolding tray_refusal
unsound_refused s b n h = rw h
