-- Laws of big-endian numbers: what is written reads back, and what reads is written as the same bytes.
use Rattle.std.specs.Prelude.{ℕ, zero, suc, ◌+◌, ◌*◌, ◌-◌, ◌/◌, ◌%◌, ◌≤◌, ◌<◌, Bool, true, false, cond, List, [], ◌∷◌, ◌++◌, ◌≡◌, refl, length}
use Rattle.std.specs.Prelude.{get_or, map, take, drop}
use Rattle.std.specs.Int.{w32, from_be_bytes}
use Rattle.std.specs.Simd.{first_chunks}
use Rattle.std.proofs.Common.{append_assoc, ap, add-zero, add_assoc, arith, drop-cons, drop-drop, get_or-append-add, get_or-take, get_or-drop}
use Rattle.std.proofs.Common.{length-drop, ◌∙◌}
use Rattle.wire.specs.Limits.{frame_header, number_width}
use Rattle.wire.specs.Words.{half_at, word_at, half_bytes, word_bytes, words_at, words_bytes, Below}

-- ---- along the numbers

pub words_length : (s : List ℕ) (at n : ℕ) → length (words_at s at n) ≡ n
words_length s at zero = refl
words_length s at (suc n) = ap suc (words_length s (at + 4) n)

-- the number at a place
pub words_at_lem : (s : List ℕ) (at n i d : ℕ) → i < n → get_or (words_at s at n) i d ≡ word_at s (at + 4 * i)
words_at_lem s at zero i d h = absurd (omega arith)
words_at_lem s at (suc n) zero d h = let e : at + 4 * 0 ≡ at = omega arith in rw e
words_at_lem s at (suc n) (suc i) d h = let e : at + 4 * suc i ≡ at + 4 + 4 * i = omega arith in rw e (words_at_lem s (at + 4) n i d (omega arith))

-- one step along the numbers from b on, as a loop over them takes it
pub words_step : (s : List ℕ) (b i n : ℕ) → i < n → words_at s (b + 4 * i) (n - i) ≡ word_at s (b + 4 * i) ∷ words_at s (b + 4 * (i + 1)) (n - (i + 1))
words_step s b i n h =
    let e : n - i ≡ suc (n - (i + 1)) = omega arith in
    let f : b + 4 * i + 4 ≡ b + 4 * (i + 1) = omega arith in
    rw (e, f)

-- the numbers of four bytes each in the chunks from a place on
words_chunked : (s : List ℕ) (at n : ℕ) → map (from_be_bytes w32) (first_chunks number_width n (drop at s)) ≡ words_at s at n
words_chunked s at zero = refl
words_chunked s at (suc n) =
    let byte : (k : ℕ) → k < 4 → get_or (take 4 (drop at s)) k 0 ≡ get_or s (at + k) 0 = λ k h. get_or-take 4 (drop at s) k 0 h ∙ get_or-drop at s k 0 in
    let first : from_be_bytes w32 (take 4 (drop at s)) ≡ word_at s at =
    rw (byte 0 (omega arith), byte 1 (omega arith), byte 2 (omega arith), byte 3 (omega arith), add-zero at) in
    rw (first, drop-drop 4 at s, words_chunked s (at + 4) n)

-- the chunks behind a header are the numbers, where the length is right
pub numbers_chunked : (s : List ℕ) (n : ℕ) → length s ≡ frame_header + number_width * n
    → let list = drop frame_header s in
    map (from_be_bytes w32) (first_chunks number_width (length list / number_width) list) ≡ words_at s frame_header n
numbers_chunked s n h =
    let many : length (drop frame_header s) / number_width ≡ n = omega (arith, length-drop frame_header s) in
    rw many (words_chunked s frame_header n)

-- numbers made of bytes fit four of them
pub words_below : (s : List ℕ) → Below 256 s → (at n : ℕ) → Below 4294967296 (words_at s at n)
words_below s b at zero i = omega arith
words_below s b at (suc n) zero = omega (arith, b at, b (at + 1), b (at + 2), b (at + 3))
words_below s b at (suc n) (suc i) = words_below s b (at + 4) n i

-- a number of two bytes, or 0 where they are missing
pub half_below : (s : List ℕ) → Below 256 s → (at : ℕ) (there : Bool) → cond there (half_at s at) 0 < 65536
half_below s b at true = omega (arith, b at, b (at + 1))
half_below s b at false = omega arith

-- ---- written, then read

pub half_back : (x : ℕ) → x / 256 * 256 + x % 256 ≡ x
half_back x = omega arith

pub word_back : (x : ℕ) → x / 256 / 256 / 256 * 16777216 + x / 256 / 256 % 256 * 65536 + x / 256 % 256 * 256 + x % 256 ≡ x
word_back x = omega arith

-- numbers behind a prefix are those of the rest
pub words_behind : (p s : List ℕ) (at n : ℕ) → words_at (p ++ s) (length p + at) n ≡ words_at s at n
words_behind p s at zero = refl
words_behind p s at (suc n) =
    let e : (k : ℕ) → get_or (p ++ s) (length p + at + k) 0 ≡ get_or s (at + k) 0 = λ k. rw add_assoc (get_or-append-add p s (at + k) 0) in
    rw (get_or-append-add p s at 0, e 1, e 2, e 3, add_assoc (length p) at 4, words_behind p s (at + 4) n)

pub words_back : (l : List ℕ) → words_at (words_bytes l) 0 (length l) ≡ l
words_back [] = refl
words_back (x ∷ l) = rw (word_back x, words_behind (word_bytes x) (words_bytes l) 0 (length l), words_back l)

-- ---- read, then written

module _ (s : List ℕ) where
  -- the next byte of what is left from at on
  pub byte_drop : (at k : ℕ) → k ≡ suc at → at < length s → drop at s ≡ get_or s at 0 ∷ drop k s
  byte_drop at k e h = rw e (drop-cons s at 0 h)

  pub half_drop : Below 256 s → (at : ℕ) → at + 2 ≤ length s → half_bytes (half_at s at) ++ drop (at + 2) s ≡ drop at s
  half_drop b at h =
      let e₀ : half_at s at / 256 ≡ get_or s at 0 = omega (arith, b at, b (at + 1)) in
      let e₁ : half_at s at % 256 ≡ get_or s (at + 1) 0 = omega (arith, b at, b (at + 1)) in
      rw (e₀, e₁, byte_drop at (at + 1) (omega arith) (omega arith), byte_drop (at + 1) (at + 2) (omega arith) (omega arith))

  pub word_drop : Below 256 s → (at : ℕ) → at + 4 ≤ length s → word_bytes (word_at s at) ++ drop (at + 4) s ≡ drop at s
  word_drop b at h =
      let e₀ : word_at s at / 256 / 256 / 256 ≡ get_or s at 0 = omega (arith, b at, b (at + 1), b (at + 2), b (at + 3)) in
      let e₁ : word_at s at / 256 / 256 % 256 ≡ get_or s (at + 1) 0 = omega (arith, b at, b (at + 1), b (at + 2), b (at + 3)) in
      let e₂ : word_at s at / 256 % 256 ≡ get_or s (at + 2) 0 = omega (arith, b at, b (at + 1), b (at + 2), b (at + 3)) in
      let e₃ : word_at s at % 256 ≡ get_or s (at + 3) 0 = omega (arith, b at, b (at + 1), b (at + 2), b (at + 3)) in
      rw (
        e₀,
        e₁,
        e₂,
        e₃,
        byte_drop at (at + 1) (omega arith) (omega arith),
        byte_drop (at + 1) (at + 2) (omega arith) (omega arith),
        byte_drop (at + 2) (at + 3) (omega arith) (omega arith),
        byte_drop (at + 3) (at + 4) (omega arith) (omega arith),
      )

pub words_drop : (s : List ℕ) → Below 256 s → (at n : ℕ) → at + 4 * n ≤ length s → words_bytes (words_at s at n) ++ drop (at + 4 * n) s ≡ drop at s
words_drop s b at zero h = ap (λ (k : ℕ). drop k s) (add-zero at)
words_drop s b at (suc n) h =
    let e : at + 4 * suc n ≡ at + 4 + 4 * n = omega arith in
    rw (append_assoc, e, words_drop s b (at + 4) n (omega arith)) (word_drop s b at (omega arith))
