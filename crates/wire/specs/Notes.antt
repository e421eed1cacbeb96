-- Words for found.rt: what is found, kept as one number while a directory is gone along. They are no part of the papers: the laws tie them to `found`.
-- A note is a place, offset and length in one word, or one of two small numbers, since no frame begins so far in front.
--     found_by k             what a note says
--     same_frames s j k      two notes of one frame each, which lie in the tray s and have the same bytes
--     note_with s k p        the note k, once a frame at the place p is met under the same number
--     note_from s x n i      the note on x that the n entries from entry i on give, from the last one of them to the first
use Rattle.std.specs.Prelude.{ℕ, zero, suc, ◌+◌, ◌/◌, ◌%◌, Bool, false, cond, ◌&&◌, List, leb, eqb, length}
use Rattle.wire.specs.Tray.{sender, place, part}
use Rattle.wire.specs.Found.{same_bytes}
use Rattle.wire.specs.declared.found.Found.{Found}
use Rattle.wire.specs.declared.found.Found.TheVariants.{At, Nothing, Several}

abbrev pub no_frame : ℕ
no_frame = 0

abbrev pub different : ℕ
different = 1

abbrev pub found_by : ℕ → Found
found_by k = cond (eqb k no_frame) Nothing (cond (eqb k different) Several (At (k / 65536) (k % 65536)))

abbrev pub same_at : List ℕ → Found → Found → Bool
same_at s (At o n) (At p m) = leb (o + n) (length s) && leb (p + m) (length s) && same_bytes (part s o n) (part s p m)
same_at s (At o n) Nothing = false
same_at s (At o n) Several = false
same_at s Nothing g = false
same_at s Several g = false

abbrev pub same_frames : List ℕ → ℕ → ℕ → Bool
same_frames s j k = same_at s (found_by j) (found_by k)

abbrev pub note_with : List ℕ → ℕ → ℕ → ℕ
note_with s k p = cond (eqb k no_frame) p (cond (same_frames s p k) p different)

abbrev pub note_from : List ℕ → ℕ → ℕ → ℕ → ℕ
note_from s x zero i = no_frame
note_from s x (suc n) i = cond (eqb (sender s i) x) (note_with s (note_from s x n (i + 1)) (place s i)) (note_from s x n (i + 1))
