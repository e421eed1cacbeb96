-- Laws of the tests that come first: what they refuse the tray refuses, and what a tray has passed where they all pass.
use Rattle.std.specs.Prelude.{ℕ, Bool, true, false, List, [], ◌∷◌, ◌++◌, ◌≡◌, refl, eqb, ltb}
use Rattle.std.proofs.Math.Bool.{and-eq-true_iff}
use Rattle.std.proofs.Common.{true≢false, sym, ◌∙◌, arith, ltb-true, leb-true, eqb-true}
use Rattle.wire.specs.Limits.{last_round}
use Rattle.wire.specs.Refusal.{first_failed}
use Rattle.wire.specs.Tray.{entries}
use Rattle.controller.specs.State.{view, undecided}
use Rattle.controller.specs.Refusals.{senders_fit, heard_fit, lists_fit, tray_refusal}
use Rattle.controller.specs.Work.Calls.{early_tests, early_refusal, Checked}
use Rattle.controller.specs.Laws.Refusals.{test_passed}
use Rattle.controller.specs.declared.state.State.{State}

-- a test that fails hides those behind it
test_first : (ts us : List (Bool × ℕ)) → eqb (first_failed ts) 0 ≡ false → first_failed (ts ++ us) ≡ first_failed ts
test_first [] us fails = absurd (true≢false fails)
test_first ((true, k) ∷ ts) us fails = test_first ts us fails
test_first ((false, k) ∷ ts) us fails = refl

module _ (s : State) (b : List ℕ) (n : ℕ) where
  pub early_refused : (k : ℕ) → k ≡ early_refusal s b n → eqb k 0 ≡ false → tray_refusal s b n ≡ k
  unfolding early_refusal tray_refusal
  early_refused k e fails =
      test_first (early_tests s b n) ((senders_fit (view s) (entries b), 6) ∷ (heard_fit (view s) (entries b), 7) ∷ (lists_fit (view s) (entries b), 8) ∷ [])
      (rw e at fails)
      ∙ sym e

  pub early_passed : early_refusal s b n ≡ 0 → Checked s b n
  unfolding early_refusal
  early_passed e =
      let passed = test_passed (early_tests s b n) (omega arith) e in
      let second = (and-eq-true_iff (ltb s.round last_round) (undecided (view s))).0 (passed 1) in
      record {
        sound = passed 0;
        early = ltb-true _ _ second.0;
        active = second.1;
        room = leb-true _ _ (passed 2);
        packed = passed 3;
        round = eqb-true _ _ (passed 4);
      }
