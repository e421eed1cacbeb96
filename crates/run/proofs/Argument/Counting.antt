-- A third and two thirds of those heard, and what is counted. CountingLaws has what they tell about correct senders.
-- Serves document 01's "From one tray to the next frame" (its two thresholds) and "The run of demand 3" (3f < n).
--     Third c h, TwoThirds c h    a count c reaches a third, two thirds, of h
--     Few f g                     f faulty ones are few beside g correct ones
--     Heard correct faulty l      l is what a receiver can have heard of them
--     Bounds g f h a c            how far a count c over h heard ones lies from the number a of correct senders
use Rattle.std.specs.Prelude.{ℕ, ◌+◌, ◌*◌, ◌≤◌, ◌<◌, List, ◌++◌}
use Rattle.controller.specs.Lists.{Inside, NoRepeats}

abbrev pub Third : ℕ → ℕ → Type 0
Third c h = h ≤ 3 * c

abbrev pub TwoThirds : ℕ → ℕ → Type 0
TwoThirds c h = 2 * h ≤ 3 * c

-- document 01's 3f < n, since n = g + f
abbrev pub Few : ℕ → ℕ → Type 0
Few f g = 2 * f < g

-- nobody twice, every correct one, nobody from outside
pub record Heard (correct faulty heard : List ℕ) : Type 0 where
  pub once : NoRepeats heard
  pub whole : Inside correct heard
  pub within : Inside heard (correct ++ faulty)

-- Of the h heard h − g are faulty, at most f. What a correct ones sent is counted c times: for each of them, and at most for the faulty ones besides.
pub record Bounds (g f h a c : ℕ) : Type 0 where
  pub heard : h ≤ g + f
  pub least : a ≤ c
  pub most : c + g ≤ a + h
