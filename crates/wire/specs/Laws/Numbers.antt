-- Laws of lists of controller numbers and of their stored form.
use Rattle.std.specs.Prelude.{ℕ, zero, suc, ◌+◌, ◌-◌, ◌≤◌, ◌<◌, Bool, ◌&&◌, List, [], ◌∷◌, ◌≡◌, refl, ltb, length, map, get_or, take, drop, replicate}
use Rattle.std.proofs.Math.Bool.{and_assoc, and-true}
use Rattle.std.proofs.Common.{add-one, arith, sym, drop_of_length-le, drop-cons, take_at}
use Rattle.wire.specs.Limits.{max_numbers}
use Rattle.wire.specs.Numbers.{rising, stored, listed}

-- one turn of a loop along a list that keeps whether the numbers passed rose, and its end
module _ (ok : Bool) (x : ℕ) (l : List ℕ) (i : ℕ) where
  pub rising_turn : i < length l → (ok && ltb x (get_or l i 0) && rising (get_or l i 0) (drop (i + 1) l)) ≡ (ok && rising x (drop i l))
  rising_turn h = rw (add-one, drop-cons l i 0) (and_assoc ok (ltb x (get_or l i 0)) (rising (get_or l i 0) (drop (suc i) l)))

  pub rising_end : length l ≤ i → (ok && rising x (drop i l)) ≡ ok
  rising_end h = rw (drop_of_length-le l {i = i} h) (and-true ok)

-- what lies in a list rises exactly if its first i + 1 numbers do, and the others from above the last of these
pub rising_cut : {X : Type 0} (f : X → ℕ) (l : List X) (d : X) (x i : ℕ) → i < length l
    → let first = take (suc i) l in
    rising x (map f l) ≡ (rising x (map f first) && rising (f (get_or first i d)) (map f (drop (suc i) l)))
rising_cut f [] d x i h = absurd (omega (arith, h))
rising_cut f (y ∷ l) d x zero h = rw (and-true (ltb x (f y))) refl
rising_cut f (y ∷ l) d x (suc i) h =
    let first = take (suc i) l in
    let others = rising (f (get_or first i d)) (map f (drop (suc i) l)) in
    rw (rising_cut f l d (f y) i (omega (arith, h))) (sym (and_assoc (ltb x (f y)) (rising (f y) (map f first)) others))

pub listed_stored : (l : List ℕ) → listed (stored l) ≡ l
listed_stored l = take_at l (replicate (max_numbers - length l) 0) (length l) refl
