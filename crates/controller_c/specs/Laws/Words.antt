-- Laws of little-endian numbers: what is written reads back, and what reads is written as the same bytes.
use Rattle.std.specs.Prelude.{ℕ, zero, suc, ◌+◌, ◌*◌, ◌/◌, ◌%◌, ◌≤◌, ◌<◌, List, [], ◌∷◌, ◌++◌, ◌≡◌, refl, length, get_or, drop}
use Rattle.std.proofs.Common.{append_assoc, ap, add-zero, arith, length-append, get_or-append-add}
use Rattle.wire.specs.Words.{Below}
use Rattle.wire.specs.Laws.Words.{byte_drop}
use Rattle.controller_c.specs.Words.{number_at, number_bytes, numbers_at, numbers_bytes}

-- ---- along the numbers

pub numbers_length : (s : List ℕ) (at n : ℕ) → length (numbers_at s at n) ≡ n
numbers_length s at zero = refl
numbers_length s at (suc n) = ap suc (numbers_length s (at + 4) n)

pub numbers_bytes_length : (l : List ℕ) → length (numbers_bytes l) ≡ 4 * length l
numbers_bytes_length [] = refl
numbers_bytes_length (x ∷ l) = omega (arith, numbers_bytes_length l)

-- the number at a place
pub numbers_at_lem : (s : List ℕ) (at n i : ℕ) → i < n → get_or (numbers_at s at n) i 0 ≡ number_at s (at + 4 * i)
numbers_at_lem s at zero i h = absurd (omega arith)
numbers_at_lem s at (suc n) zero h = let e : at + 4 * 0 ≡ at = omega arith in rw e
numbers_at_lem s at (suc n) (suc i) h = let e : at + 4 * suc i ≡ at + 4 + 4 * i = omega arith in rw e (numbers_at_lem s (at + 4) n i (omega arith))

-- ---- written, then read

pub number_back : (x : ℕ) → x % 256 + x / 256 % 256 * 256 + x / 256 / 256 % 256 * 65536 + x / 256 / 256 / 256 * 16777216 ≡ x
number_back x = omega arith

-- with bytes before them and bytes behind
pub numbers_back : (p l r : List ℕ) → numbers_at (p ++ (numbers_bytes l ++ r)) (length p) (length l) ≡ l
numbers_back p [] r = refl
numbers_back p (x ∷ l) r =
    let b = numbers_bytes (x ∷ l) ++ r in
    let byte : (k : ℕ) → get_or (p ++ b) (length p + k) 0 ≡ get_or b k 0 = λ k. get_or-append-add p b k 0 in
    let before : (p ++ number_bytes x) ++ (numbers_bytes l ++ r) ≡ p ++ b = append_assoc p (number_bytes x) (numbers_bytes l ++ r) in
    let size : length (p ++ number_bytes x) ≡ length p + 4 = length-append p (number_bytes x) in
    let rest : numbers_at (p ++ b) (length p + 4) (length l) ≡ l = rw (before, size) at (numbers_back (p ++ number_bytes x) l r) in
    rw (rw add-zero at (byte 0), byte 1, byte 2, byte 3, number_back x, rest)

-- ---- read, then written

module _ (s : List ℕ) (b : Below 256 s) where
  pub number_drop : (at : ℕ) → at + 4 ≤ length s → number_bytes (number_at s at) ++ drop (at + 4) s ≡ drop at s
  number_drop at h =
      let e₃ : number_at s at / 256 / 256 / 256 ≡ get_or s (at + 3) 0 = omega (arith, b at, b (at + 1), b (at + 2), b (at + 3)) in
      let e₂ : number_at s at / 256 / 256 % 256 ≡ get_or s (at + 2) 0 = omega (arith, b at, b (at + 1), b (at + 2), b (at + 3)) in
      let e₁ : number_at s at / 256 % 256 ≡ get_or s (at + 1) 0 = omega (arith, b at, b (at + 1), b (at + 2), b (at + 3)) in
      let e₀ : number_at s at % 256 ≡ get_or s at 0 = omega (arith, b at, b (at + 1), b (at + 2), b (at + 3)) in
      rw (
        e₀,
        e₁,
        e₂,
        e₃,
        byte_drop s at (at + 1) (omega arith) (omega arith),
        byte_drop s (at + 1) (at + 2) (omega arith) (omega arith),
        byte_drop s (at + 2) (at + 3) (omega arith) (omega arith),
        byte_drop s (at + 3) (at + 4) (omega arith) (omega arith),
      )

  pub numbers_drop : (at n : ℕ) → at + 4 * n ≤ length s → numbers_bytes (numbers_at s at n) ++ drop (at + 4 * n) s ≡ drop at s
  numbers_drop at zero h = ap (λ (k : ℕ). drop k s) (add-zero at)
  numbers_drop at (suc n) h =
      let e : at + 4 * suc n ≡ at + 4 + 4 * n = omega arith in
      rw (append_assoc, e, numbers_drop (at + 4) n (omega arith)) (number_drop at (omega arith))
