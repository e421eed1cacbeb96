-- The two thresholds: document 01, "From one tray to the next frame", "A count c reaches a third if 3c ≥ h, and two thirds if 3c ≥ 2h".
--     third c h          c of h reach a third
--     two_thirds c h     c of h reach two thirds
use Rattle.std.specs.Prelude.{ℕ, ◌*◌, Bool, leb}

unfoldable pub third : ℕ → ℕ → Bool
third c h = leb h (3 * c)

unfoldable pub two_thirds : ℕ → ℕ → Bool
two_thirds c h = leb (2 * h) (3 * c)
