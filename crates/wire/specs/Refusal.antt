-- Refusals: document 01, "Refusals", where a call's tests stand in a fixed order.
--     first_failed ts    the number of the first test of ts that fails, 0 where all pass
use Rattle.std.specs.Prelude.{ℕ, Bool, cond, List, [], ◌∷◌}

abbrev pub first_failed : List (Bool × ℕ) → ℕ
first_failed [] = 0
first_failed (t ∷ ts) = cond t.0 (first_failed ts) t.1
