-- Document 01, "Trials": all the starred ones, as one table in the paper's order.
--     Trial         a row: on frames, on the two thresholds, or on a tray
--     Holds         what a row claims, in the definitions that the contracts cite
--     trials        the table
-- A tray of these rows is handed to `started`, with an output buffer that holds the longest frame.
use Rattle.std.specs.Prelude.{ℕ, Bool, true, false, List, [], ◌∷◌, ◌++◌, map, ◌≡◌}
use Rattle.wire.specs.Limits.{max_frame}
use Rattle.wire.specs.Trials.{FrameTrial, FrameHolds, frame_trials}
use Rattle.controller.specs.Thirds.{third, two_thirds}
use Rattle.controller.specs.State.{start_view}
use Rattle.controller.specs.Examples.{after_start}
use Rattle.controller.specs.Refusals.{tray_refusal}
use Rattle.controller.specs.declared.state.State.{State}

pub data Trial : Type 0 where
  -- bytes, the round in which they are read, and what they read as
  Frame : FrameTrial → Trial
  -- h, a count c, whether c reaches a third of h, whether it reaches two thirds
  Threshold : (h c : ℕ) → Bool → Bool → Trial
  -- a state, the tray's bytes, and the refusal, 0 for none: the paper's "worked"
  Tray : State → List ℕ → ℕ → Trial

abbrev pub Holds : Trial → Type 0
Holds (Frame t) = FrameHolds t
Holds (Threshold h c one two) = (third c h ≡ one) × (two_thirds c h ≡ two)
Holds (Tray s b k) = tray_refusal s b max_frame ≡ k

-- a state of round 1
abbrev pub started : State
started = after_start (start_view 7 1)

abbrev pub trials : List Trial
trials =
    -- "h = 1: one reaches both"
    (Threshold 1 1 true true
    -- "h = 3: one reaches a third, two reach two thirds"
    ∷ Threshold 3 1 true false
    ∷ Threshold 3 2 true true
    -- "h = 4: a third at 2, not 1; two thirds at 3, not 2"
    ∷ Threshold 4 1 false false
    ∷ Threshold 4 2 true false
    ∷ Threshold 4 3 true true
    -- "h = 64: 22 not 21; 43 not 42"
    ∷ Threshold 64 21 false false
    ∷ Threshold 64 22 true false
    ∷ Threshold 64 42 true false
    ∷ Threshold 64 43 true true
    ∷ [])
    -- "00 00 00 01 01 02 00 00 is init. With 00 at offset 5 it is void. A roster listing 5, 7 reads; 7, 5 and 5, 5 are void"
    ++ map Frame frame_trials
    -- "An empty tray of 8 bytes is worked; with a ninth byte it gets 4; of 7 bytes, 4"
    ++ (Tray started (0 ∷ 0 ∷ 0 ∷ 1 ∷ 0 ∷ 0 ∷ 0 ∷ 0 ∷ []) 0
    ∷ Tray started (0 ∷ 0 ∷ 0 ∷ 1 ∷ 0 ∷ 0 ∷ 0 ∷ 0 ∷ 0 ∷ []) 4
    ∷ Tray started (0 ∷ 0 ∷ 0 ∷ 1 ∷ 0 ∷ 0 ∷ 0 ∷ []) 4
    -- "One entry, offset 16, length 8, tray of 24 bytes: worked; offset 17: 4"
    ∷ Tray started (0 ∷ 0 ∷ 0 ∷ 1 ∷ 0 ∷ 1 ∷ 0 ∷ 0 ∷ 0 ∷ 0 ∷ 0 ∷ 5 ∷ 0 ∷ 16 ∷ 0 ∷ 8 ∷ 0 ∷ 0 ∷ 0 ∷ 1 ∷ 1 ∷ 2 ∷ 0 ∷ 0 ∷ []) 0
    ∷ Tray started (0 ∷ 0 ∷ 0 ∷ 1 ∷ 0 ∷ 1 ∷ 0 ∷ 0 ∷ 0 ∷ 0 ∷ 0 ∷ 5 ∷ 0 ∷ 17 ∷ 0 ∷ 8 ∷ 0 ∷ 0 ∷ 0 ∷ 1 ∷ 1 ∷ 2 ∷ 0 ∷ 0 ∷ []) 4
    -- "A tray of round 2 for a state of round 1: 5"
    ∷ Tray started (0 ∷ 0 ∷ 0 ∷ 2 ∷ 0 ∷ 0 ∷ 0 ∷ 0 ∷ []) 5
    ∷ [])
