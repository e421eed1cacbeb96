-- Words for lists.rt: a rising list in its places. They are no part of the rules: the laws tie them to the rules' words.
--     below x l                how many of l are below x: the place where x stands, or belongs, in a rising list
--     found_in x l             the place of x in the rising list l; where it is not in l, as an error, the place where it belongs
--     inserted_at i x l        l with x at place i
--     opened i x n s           the places s of a list of n numbers with x put in at place i: the numbers from there on stand one place further
use Rattle.std.specs.Prelude.{ℕ, ◌+◌, cond, List, ◌∷◌, ◌++◌, ltb, take, drop, Result, Ok, Err}
use Rattle.std.proofs.Math.Seq.{slice}
use Rattle.controller.specs.Lists.{count_if, mem}

abbrev pub below : ℕ → List ℕ → ℕ
below x l = count_if (λ (y : ℕ). ltb y x) l

abbrev pub found_in : ℕ → List ℕ → Result ℕ ℕ
found_in x l = cond (mem x l) (Ok (below x l)) (Err (below x l))

abbrev pub inserted_at : ℕ → ℕ → List ℕ → List ℕ
inserted_at i x l = take i l ++ x ∷ drop i l

abbrev pub opened : ℕ → ℕ → ℕ → List ℕ → List ℕ
opened i x n s = take i s ++ (x ∷ (slice i n s ++ drop (n + 1) s))
