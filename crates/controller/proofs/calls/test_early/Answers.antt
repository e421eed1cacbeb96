-- `controller::calls::test_early` meets its contract: each test that fails gives its number, since those before it were passed.
use Rattle.std.specs.Prelude.{ℕ, Bool, not, ◌||◌, List, [], ◌∷◌, ◌≡◌, refl, leb, eqb}
use Rattle.std.proofs.Common.{inl, inr, sym, ◌∙◌, leb-true, lt-ltb, le-ltb, le-leb, eq-eqb, ne_eqb}
use Rattle.std.proofs.Math.Bool.{not-not}
use Rattle.std.proofs.lemmas.Bool.{leb-false, lt-leb}
use Rattle.wire.specs.Limits.{max_frame, last_round}
use Rattle.wire.specs.Refusal.{first_failed}
use Rattle.wire.specs.Tray.{well_formed, round_of}
use Rattle.controller.specs.Laws.Lists.{true_or_false}
use Rattle.controller.specs.Refusals.{works_on}
use Rattle.controller.specs.State.{View, view, undecided, sound}
use Rattle.controller.specs.Work.Calls.{early_refusal}
use Rattle.controller.specs.declared.state.State.{State}
use Rattle.controller.proofs.calls.test_early.Goals as goal

-- a state works on where the test of its round and its decision fails
works : (v : View) → works_on v ≡ not (leb last_round v.round || not (undecided v))
works v = elim (true_or_false (leb last_round v.round)) [
  | inl e ↦ rw (e, le-ltb v.round last_round (leb-true last_round v.round e))
  | inr e ↦ rw (e, lt-ltb v.round last_round (leb-false last_round v.round e)) (sym (not-not (undecided v)))
]

-- the tests, in their order, by what the code's tests say
tested : (s : State) (b : List ℕ) (n : ℕ) {t u v w x : Bool} → sound s ≡ t → (leb last_round s.round || not (undecided (view s))) ≡ u
    → leb max_frame n ≡ v → well_formed b ≡ w → eqb (round_of b) s.round ≡ x
    → first_failed ((t, 1) ∷ (not u, 2) ∷ (v, 3) ∷ (w, 4) ∷ (x, 5) ∷ []) ≡ early_refusal s b n
unfolding early_refusal
tested s b n one two three four five = rw (one, works (view s), two, three, four, five)

pub returns-then-not-is_sound-clause-number : goal.returns-then-not-is_sound-clause-number
returns-then-not-is_sound-clause-number c = tested _ _ _ (sym c.is_sound.ensures ∙ c.if-not-is_sound.true) refl refl refl refl

pub returns-then-state-clause-number : goal.returns-then-state-clause-number
returns-then-state-clause-number c = tested _ _ _ (sym c.is_sound.ensures ∙ c.if-not-is_sound.false) c.if-state.true refl refl refl

pub returns-then-room-lt-MAX_FRAME-clause-number : goal.returns-then-room-lt-MAX_FRAME-clause-number
returns-then-room-lt-MAX_FRAME-clause-number c =
    tested _ _ _ (sym c.is_sound.ensures ∙ c.if-not-is_sound.false) c.if-state.false (lt-leb _ _ c.if-room-lt-MAX_FRAME.true) refl refl

pub returns-then-not-well_formed-clause-number : goal.returns-then-not-well_formed-clause-number
returns-then-not-well_formed-clause-number c =
    tested _ _ _ (sym c.is_sound.ensures ∙ c.if-not-is_sound.false) c.if-state.false (le-leb _ _ c.if-room-lt-MAX_FRAME.false)
    (sym c.well_formed-else-room-lt-MAX_FRAME.ensures ∙ c.if-not-well_formed.true) refl

-- a tray of another round, and one of the state's
pub returns-then-tray_round-state-clause-number : goal.returns-then-tray_round-state-clause-number
returns-then-tray_round-state-clause-number c =
    tested _ _ _ (sym c.is_sound.ensures ∙ c.if-not-is_sound.false) c.if-state.false (le-leb _ _ c.if-room-lt-MAX_FRAME.false)
    (sym c.well_formed-else-room-lt-MAX_FRAME.ensures ∙ c.if-not-well_formed.false) (ne_eqb _ _ (λ e. c.if-tray_round-state.true (c.tray_round.ensures ∙ e)))

pub returns-else-tray_round-state-clause-number : goal.returns-else-tray_round-state-clause-number
returns-else-tray_round-state-clause-number c =
    tested _ _ _ (sym c.is_sound.ensures ∙ c.if-not-is_sound.false) c.if-state.false (le-leb _ _ c.if-room-lt-MAX_FRAME.false)
    (sym c.well_formed-else-room-lt-MAX_FRAME.ensures ∙ c.if-not-well_formed.false) (eq-eqb _ _ (sym c.tray_round.ensures ∙ c.if-tray_round-state.false))
