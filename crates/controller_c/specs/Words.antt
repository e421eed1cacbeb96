-- Little-endian numbers in lists of bytes, the order of the machines that the library is compiled for, so that taking a list out of an image is a
-- plain copy: the page docs/IMAGE.md, "The image". The numbers in frames and trays are big-endian, wire's specs/Words.antt.
--     number_at s at      the number in the four bytes of s from at on (bytes past the end count as 0)
--     number_bytes x      the bytes of a number below 2 ^ 32
--     numbers_at s at n   the n numbers that stand one after the other from at on
--     numbers_bytes l     the bytes of the numbers of l, one after the other
use Rattle.std.specs.Prelude.{ℕ, zero, suc, ◌+◌, ◌*◌, ◌/◌, ◌%◌, List, [], ◌∷◌, ◌++◌, get_or}

abbrev pub number_at : List ℕ → ℕ → ℕ
number_at s at = get_or s at 0 + get_or s (at + 1) 0 * 256 + get_or s (at + 2) 0 * 65536 + get_or s (at + 3) 0 * 16777216

abbrev pub number_bytes : ℕ → List ℕ
number_bytes x = x % 256 ∷ x / 256 % 256 ∷ x / 256 / 256 % 256 ∷ x / 256 / 256 / 256 ∷ []

abbrev pub numbers_at : List ℕ → ℕ → ℕ → List ℕ
numbers_at s at zero = []
numbers_at s at (suc n) = number_at s at ∷ numbers_at s (at + 4) n

abbrev pub numbers_bytes : List ℕ → List ℕ
numbers_bytes [] = []
numbers_bytes (x ∷ l) = number_bytes x ++ numbers_bytes l
