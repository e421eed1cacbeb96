-- Lists of controller numbers: document 01, "Frames", the row of the numbers.
--     rising x l        l rises strictly from above x: rising 0 l says "nonzero, strictly rising"
--     stored l          the list in its stored form: its length, and 64 places of which the unused ones are 0
--     listed n          the list that a stored form holds: its used places
use Rattle.std.specs.Prelude.{ℕ, ◌-◌, Bool, true, ◌&&◌, List, [], ◌∷◌, ◌++◌, ltb, length, replicate, take}
use Rattle.wire.specs.Limits.{max_numbers}
use Rattle.wire.specs.declared.frame.Numbers.{Numbers}

abbrev pub rising : ℕ → List ℕ → Bool
rising x [] = true
rising x (y ∷ l) = ltb x y && rising y l

abbrev pub stored : List ℕ → Numbers
stored l = record { len = length l; at = l ++ replicate (max_numbers - length l) 0 }

abbrev pub listed : Numbers → List ℕ
listed n = take n.len n.at
