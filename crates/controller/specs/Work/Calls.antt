-- Words for calls.rt: what a call has passed, and what it sends. They are no part of the rules: the laws tie them to the rules' words.
--     early_tests s b n        the tests 1 to 5; early_refusal s b n, 0, or the number of the first of them that fails
--     Checked s b n            what a tray has passed before its senders are looked at: tests 1 to 5
--     Sends v given r left     r is the length of the frame that is sent with v, and it stands in front of what stood in the buffer
--     SendsState s given r left     so it is with the view of the state s, if it is sound but for its record
use Rattle.std.specs.Prelude.{ℕ, ◌<◌, ◌≤◌, Bool, true, List, [], ◌∷◌, ◌++◌, ◌≡◌, leb, eqb, length, drop}
use Rattle.wire.specs.Limits.{max_frame, last_round}
use Rattle.wire.specs.Refusal.{first_failed}
use Rattle.wire.specs.Tray.{well_formed, round_of}
use Rattle.controller.specs.State.{View, view, undecided, sound, sound_rules}
use Rattle.controller.specs.Refusals.{works_on}
use Rattle.controller.specs.Calls.{sent_bytes}
use Rattle.controller.specs.declared.state.State.{State}

abbrev pub early_tests : State → List ℕ → ℕ → List (Bool × ℕ)
early_tests s b n =
    (sound s, 1)
    ∷ (works_on (view s), 2)
    ∷ (leb max_frame n, 3)
    ∷ (well_formed b, 4)
    ∷ (eqb (round_of b) s.round, 5)
    ∷ []

unfoldable pub early_refusal : State → List ℕ → ℕ → ℕ
early_refusal s b n = first_failed (early_tests s b n)

pub record Checked (s : State) (b : List ℕ) (n : ℕ) : Type 0 where
  pub sound : sound s ≡ true
  pub early : s.round < last_round
  pub active : undecided (view s) ≡ true
  pub room : max_frame ≤ n
  pub packed : well_formed b ≡ true
  pub round : round_of b ≡ s.round

pub record Sends (v : View) (given : List ℕ) (r : ℕ) (left : List ℕ) : Type 0 where
  pub written : r ≡ length (sent_bytes v)
  pub output : left ≡ sent_bytes v ++ drop (length (sent_bytes v)) given

-- a sound state's frame
abbrev pub SendsState : State → List ℕ → ℕ → List ℕ → Type 0
SendsState s given r left = sound_rules s ≡ true → Sends (view s) given r left
