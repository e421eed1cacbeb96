-- Big-endian numbers in lists of bytes: document 01, "Frames", "Multi-byte fields are big-endian".
--     half_at s at, word_at s at     the number in the two or four bytes of s from at on (bytes past the end count as 0)
--     half_bytes x, word_bytes x     the bytes of a number below 2 ^ 16 or 2 ^ 32
--     words_at s at n                the n numbers of four bytes that stand one after the other from at on
--     words_bytes l                  the bytes of the numbers of l, one after the other
--     Below k l                      each number of l is below k: Below 256 s says that s is made of bytes
use Rattle.std.specs.Prelude.{ℕ, zero, suc, ◌+◌, ◌*◌, ◌/◌, ◌%◌, ◌<◌, List, [], ◌∷◌, ◌++◌, get_or}

abbrev pub half_at : List ℕ → ℕ → ℕ
half_at s at = get_or s at 0 * 256 + get_or s (at + 1) 0

abbrev pub word_at : List ℕ → ℕ → ℕ
word_at s at = get_or s at 0 * 16777216 + get_or s (at + 1) 0 * 65536 + get_or s (at + 2) 0 * 256 + get_or s (at + 3) 0

abbrev pub half_bytes : ℕ → List ℕ
half_bytes x = x / 256 ∷ x % 256 ∷ []

abbrev pub word_bytes : ℕ → List ℕ
word_bytes x = x / 256 / 256 / 256 ∷ x / 256 / 256 % 256 ∷ x / 256 % 256 ∷ x % 256 ∷ []

abbrev pub words_at : List ℕ → ℕ → ℕ → List ℕ
words_at s at zero = []
words_at s at (suc n) = word_at s at ∷ words_at s (at + 4) n

abbrev pub words_bytes : List ℕ → List ℕ
words_bytes [] = []
words_bytes (x ∷ l) = word_bytes x ++ words_bytes l

abbrev pub Below : ℕ → List ℕ → Type 0
Below k l = (i : ℕ) → get_or l i 0 < k
