-- Laws of sums.
use Rattle.std.specs.Prelude.{ℕ, zero, suc, ◌+◌, ◌≤◌, ◌<◌, Bool, cond, List, [], ◌∷◌, ◌≢◌, ◌≡◌, refl, length, get_or}
use Rattle.std.proofs.Common.{inl, inr, sym, arith}
use Rattle.std.proofs.Math.Decide.{ℕ_discrete}
use Rattle.controller.specs.Lists.{count_if}
use Rattle.controller.specs.Work.OpenList.{total}
use Rattle.controller.specs.Laws.Lists.{true_or_false}

pub total_same : (f g : ℕ → ℕ) (n : ℕ) → ((j : ℕ) → j < n → f j ≡ g j) → total f n ≡ total g n
total_same f g zero same = refl
total_same f g (suc n) same = omega (arith, total_same f g n (λ j h. same j (omega arith)), same n (omega arith))

-- two sums that differ at one place only
pub total_one : (f g : ℕ → ℕ) (n k : ℕ) → k < n → ((j : ℕ) → j < n → j ≢ k → f j ≡ g j) → total f n + g k ≡ total g n + f k
total_one f g zero k h same = absurd (omega arith)
total_one f g (suc n) k h same = elim (ℕ_discrete k n) [
  | yes e ↦
      let rest = total_same f g n (λ j i. same j (omega arith) (λ q. omega arith)) in
      rw e (omega (arith, rest))
  | no d ↦
      let rest = total_one f g n k (omega arith) (λ j i. same j (omega arith)) in
      omega (arith, rest, same n (omega arith) (λ q. d (sym q)))
]

-- a sum that is more at one place only
pub total_grows : (f g : ℕ → ℕ) (n k d : ℕ) → k < n → f k ≡ g k + d → ((j : ℕ) → j < n → j ≢ k → f j ≡ g j) → total f n ≡ total g n + d
total_grows f g n k d h e same = omega (arith, total_one f g n k h same)

pub total_has : (f : ℕ → ℕ) (n k : ℕ) → k < n → f k ≤ total f n
total_has f zero k h = absurd (omega arith)
total_has f (suc n) k h = elim (ℕ_discrete k n) [
  | yes e ↦ rw e (omega arith)
  | no d ↦ omega (arith, total_has f n k (omega arith))
]

-- a sum from its front
total_front : (f : ℕ → ℕ) (n : ℕ) → total f (suc n) ≡ f 0 + total (λ (j : ℕ). f (suc j)) n
total_front f zero = omega arith
total_front f (suc n) = omega (arith, total_front f n)

-- a count along a list is a sum over its places
pub count_total : (f : ℕ → Bool) (l : List ℕ) → count_if f l ≡ total (λ (j : ℕ). cond (f (get_or l j 0)) 1 0) (length l)
count_total f [] = refl
count_total f (x ∷ l) =
    let front = total_front (λ (j : ℕ). cond (f (get_or (x ∷ l) j 0)) 1 0) (length l) in
    let rest = count_total f l in
    elim (true_or_false (f x)) [ inl t ↦ rw t (omega (arith, rest, rw t at front)) | inr t ↦ rw t (omega (arith, rest, rw t at front)) ]

pub total_none : (f : ℕ → ℕ) (n : ℕ) → ((j : ℕ) → j < n → f j ≡ 0) → total f n ≡ 0
total_none f zero none = refl
total_none f (suc n) none = omega (arith, total_none f n (λ j h. none j (omega arith)), none n (omega arith))

pub total_most : (f g : ℕ → ℕ) (n : ℕ) → ((j : ℕ) → j < n → f j ≤ g j) → total f n ≤ total g n
total_most f g zero most = omega arith
total_most f g (suc n) most = omega (arith, total_most f g n (λ j h. most j (omega arith)), most n (omega arith))
