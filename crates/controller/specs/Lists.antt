-- Lists of controller numbers: the words that the rules and the run are stated in.
--     In x l           x is in l
--     Inside l m       whatever is in l is in m
--     mem x l          x is in l, as a test to count with
--     count_if f l     how many of l pass the test f
--     keep f l         those of l that pass the test f
--     insert x l       the rising list l with x in its place, once
--     insert_all m l   the rising list l with each of m in its place, once
--     NoRepeats l      l has no number twice
--     Rising l         l rises strictly
use Rattle.std.proofs.Common.{List, [], ◌∷◌}
use Rattle.std.specs.Prelude.{ℕ, suc, ◌<◌, Bool, false, cond, ◌||◌, eqb, ltb}
use mathlib.Core.List.{Memᴰ}

abbrev pub In : ℕ → List ℕ → Type 0
In x l = Memᴰ x l

abbrev pub Inside : List ℕ → List ℕ → Type 0
Inside l m = (x : ℕ) → In x l → In x m

abbrev pub mem : ℕ → List ℕ → Bool
mem x [] = false
mem x (y ∷ l) = eqb x y || mem x l

abbrev pub count_if : (ℕ → Bool) → List ℕ → ℕ
count_if f [] = 0
count_if f (x ∷ l) = cond (f x) (suc (count_if f l)) (count_if f l)

abbrev pub keep : (ℕ → Bool) → List ℕ → List ℕ
keep f [] = []
keep f (x ∷ l) = cond (f x) (x ∷ keep f l) (keep f l)

abbrev pub insert : ℕ → List ℕ → List ℕ
insert x [] = x ∷ []
insert x (y ∷ l) = cond (ltb x y) (x ∷ y ∷ l) (cond (eqb x y) (y ∷ l) (y ∷ insert x l))

abbrev pub insert_all : List ℕ → List ℕ → List ℕ
insert_all [] l = l
insert_all (x ∷ m) l = insert x (insert_all m l)

abbrev pub NoRepeats : List ℕ → Type 0
NoRepeats [] = Unit {0}
NoRepeats (x ∷ l) = (¬ In x l) × NoRepeats l

abbrev pub Rising : List ℕ → Type 0
Rising [] = Unit {0}
Rising (x ∷ l) = ((y : ℕ) → In y l → x < y) × Rising l
