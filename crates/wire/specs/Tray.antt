-- Trays: document 01, "Trays".
--     well_formed s           the paper's "well packed"
--     round_of s              the round in which the tray's frames were sent
--     entry_count s           how many entries the tray says it has
--     directory s             the entries' bytes; no bytes where they run past the end
--     word_of d i at          the word at `at` of entry i of the directory d; 0 where there is no such entry
--     sender s i, place s i   the sender of entry i, and where its frame lies: offset and length in one word
--     part s o n              the n bytes from o on; no bytes where they run past the end
--     entries s               the tray as a list of entries: who sent, and the bytes
--     overwritten s i new     the tray s with the bytes new in the place of entry i's frame
-- Offsets and lengths are added as numbers without a bound, so no sum wraps.
use Rattle.std.specs.Prelude.{ℕ, zero, suc, ◌+◌, ◌*◌, ◌/◌, Bool, cond, ◌&&◌, List, [], ◌∷◌, ◌++◌, leb, ltb, eqb, length, take, drop}
use Rattle.wire.specs.Limits.{tray_header, entries_at, zero_at, entry_width, offset_at, length_at, max_tray, max_entries}
use Rattle.wire.specs.Words.{half_at, word_at}

-- ---- the header

unfoldable pub round_of : List ℕ → ℕ
round_of s = cond (leb tray_header (length s)) (word_at s 0) 0

unfoldable pub entry_count : List ℕ → ℕ
entry_count s = cond (leb tray_header (length s)) (half_at s entries_at) 0

-- ---- parts of a tray

unfoldable pub part : List ℕ → ℕ → ℕ → List ℕ
part s o n = cond (leb (o + n) (length s)) (take n (drop o s)) []

-- ---- the directory

-- where entry i begins
abbrev pub entry_at : ℕ → ℕ
entry_at i = tray_header + entry_width * i

abbrev pub offset_of : List ℕ → ℕ → ℕ
offset_of s i = half_at s (entry_at i + offset_at)

abbrev pub length_of : List ℕ → ℕ → ℕ
length_of s i = half_at s (entry_at i + length_at)

abbrev pub directory : List ℕ → List ℕ
directory s = part s tray_header (entry_width * entry_count s)

abbrev pub word_of : List ℕ → ℕ → ℕ → ℕ
word_of d i at = cond (ltb i (length d / entry_width)) (word_at d (entry_width * i + at)) 0

unfoldable pub sender : List ℕ → ℕ → ℕ
sender s i = word_of (directory s) i 0

unfoldable pub place : List ℕ → ℕ → ℕ
place s i = word_of (directory s) i offset_at

-- ---- well packed

-- the n entries from entry i on: the first frame begins at `at`, each next where the one before ends, and the last ends at the tray's end
abbrev pub chained : List ℕ → ℕ → ℕ → ℕ → Bool
chained s zero i at = eqb at (length s)
chained s (suc n) i at = eqb (offset_of s i) at && chained s n (i + 1) (at + length_of s i)

unfoldable pub well_formed : List ℕ → Bool
well_formed s =
    leb tray_header (length s) && leb (length s) max_tray && leb (entry_count s) max_entries && eqb (half_at s zero_at) 0
    && leb (entry_at (entry_count s)) (length s) && chained s (entry_count s) 0 (entry_at (entry_count s))

-- ---- the tray as a list of entries

pub record Entry : Type 0 where
  pub sender : ℕ
  pub bytes : List ℕ

abbrev pub entries_from : List ℕ → ℕ → ℕ → List Entry
entries_from s zero i = []
entries_from s (suc n) i = record { sender = sender s i; bytes = part s (offset_of s i) (length_of s i) } ∷ entries_from s n (i + 1)

unfoldable pub entries : List ℕ → List Entry
entries s = entries_from s (entry_count s) 0

-- ---- a damaged tray

-- what stands before entry i's frame, other bytes for the frame, and what stands behind it
unfoldable pub overwritten : List ℕ → ℕ → List ℕ → List ℕ
overwritten s i new = take (offset_of s i) s ++ new ++ drop (offset_of s i + length_of s i) s
