-- Laws of notes: they come to the answer.
use Rattle.std.specs.Prelude.{ℕ, zero, suc, ◌+◌, ◌*◌, ◌/◌, ◌%◌, ◌≤◌, ◌<◌, Bool, true, false, cond, ◌&&◌, ◌≢◌, ◌≡◌, refl, leb, eqb, length, List, map}
use Rattle.std.proofs.Math.Bool.{and-eq-true_iff}
use Rattle.std.proofs.Common.{true≢false, sym, ap, ap₂, ◌∙◌, eq-eqb, ne_eqb, le-leb, arith}
use mathlib.Core.List.{Memᴰ}
use Rattle.std.proofs.Math.Decide.{ℕ_discrete}
use Rattle.wire.specs.Limits.{offset_at, length_at}
use Rattle.wire.specs.Tray.{Entry, entry_count, entry_at, offset_of, length_of, sender, place, part, entries_from, entries, well_formed}
use Rattle.wire.specs.Found.{frames_under, same_bytes, Under, nothing, one, several, under, first_from, answer, found, meaning}
use Rattle.wire.specs.Notes.{no_frame, different, found_by, same_at, note_with, note_from}
use Rattle.wire.specs.Laws.Found.{same_is, beside, among_step, one_first, first_frame}
use Rattle.wire.specs.Laws.Tray.{well_formed_gives, part_inside, place_is}
use Rattle.wire.specs.declared.found.Found.{Found}
use Rattle.wire.specs.declared.found.Found.TheVariants.{At, Nothing, Several}

-- ---- what a note says

-- a place is a word, so its offset and its length are two bytes each
abbrev offset : Found → ℕ
offset (At o n) = o
offset Nothing = 0
offset Several = 0

abbrev len : Found → ℕ
len (At o n) = n
len Nothing = 0
len Several = 0

pub found_small : (k o n : ℕ) → k < 4294967296 → found_by k ≡ At o n → (o < 65536) × (n < 65536)
found_small k o n h e =
    let small = pick (eqb k no_frame) (eqb k different) in
    (rw e at small.0, rw e at small.1)
  where
    pick : (t u : Bool)
        → let f = cond t Nothing (cond u Several (At (k / 65536) (k % 65536))) in (offset f < 65536) × (len f < 65536)
    pick true u = (omega arith, omega arith)
    pick false true = (omega arith, omega arith)
    pick false false = (omega arith, omega arith)

-- the word of an entry is its offset and its length; the frame lies behind the directory, so that the word is no small number
module _ (s : List ℕ) (packed : well_formed s ≡ true) where
  place_parts : (i : ℕ) → i < entry_count s → (place s i ≡ offset_of s i * 65536 + length_of s i) × (16 ≤ offset_of s i) × (length_of s i < 65536)
  place_parts i h =
      let third : entry_at i + offset_at + 2 ≡ entry_at i + length_at = omega arith in
      let fourth : entry_at i + offset_at + 3 ≡ entry_at i + length_at + 1 = omega arith in (
        place_is s packed i h ∙ rw (third, fourth) (omega arith),
        omega (arith, (part_inside s packed i h).0),
        omega (arith, (part_inside s packed i h).1, (well_formed_gives s packed).short),
      )

  place_found : (i : ℕ) → i < entry_count s → found_by (place s i) ≡ At (offset_of s i) (length_of s i)
  place_found i h =
      let is = place_parts i h in
      let k = place s i in
      let high : k / 65536 ≡ offset_of s i = omega (arith, is.0, is.2) in
      let low : k % 65536 ≡ length_of s i = omega (arith, is.0, is.2) in
      rw (ne_eqb k no_frame (λ e. omega (arith, is.0, is.1)), ne_eqb k different (λ e. omega (arith, is.0, is.1)), high, low)

-- frames that are the same mean the same
pub same_meaning : (s : List ℕ) (f g : Found) → same_at s f g ≡ true → meaning s f ≡ meaning s g
same_meaning s (At o n) (At p m) e =
    let inside = leb (o + n) (length s) && leb (p + m) (length s) in
    ap one (same_is (part s o n) (part s p m) ((and-eq-true_iff inside (same_bytes (part s o n) (part s p m))).0 e).1)
same_meaning s (At o n) Nothing e = absurd (true≢false (sym e))
same_meaning s (At o n) Several e = absurd (true≢false (sym e))
same_meaning s Nothing g e = absurd (true≢false (sym e))
same_meaning s Several g e = absurd (true≢false (sym e))

-- ---- the notes come to the answer

-- a note that says that there is nothing is the one for no frame
abbrev is_nothing : Found → Bool
is_nothing (At o n) = false
is_nothing Nothing = true
is_nothing Several = false

note_nothing : (k : ℕ) → found_by k ≡ Nothing → k ≡ no_frame
note_nothing k e = elim (ℕ_discrete k no_frame) [
  | yes z ↦ z
  | no d ↦ absurd (true≢false (sym (ap is_nothing e) ∙ rw (ne_eqb k no_frame d) (pick (eqb k different))))
]
  where
    pick : (t : Bool) → is_nothing (cond t Several (At (k / 65536) (k % 65536))) ≡ false
    pick true = refl
    pick false = refl

note_some : (k : ℕ) → is_nothing (found_by k) ≡ false → k ≢ no_frame
note_some k e z = absurd (true≢false (sym (ap (λ m. is_nothing (found_by m)) z) ∙ e))

note_chosen : (s : List ℕ) (k p : ℕ) (f g : Found) → k ≢ no_frame → found_by p ≡ f → found_by k ≡ g → note_with s k p ≡ cond (same_at s f g) p different
note_chosen s k p f g h a b =
    let chosen : note_with s k p ≡ cond (same_at s (found_by p) (found_by k)) p different = rw (ne_eqb k no_frame h) in
    chosen ∙ ap (λ t. cond t p different) (ap₂ (same_at s) a b)

module _ (s : List ℕ) (packed : well_formed s ≡ true) where
  -- entry i is under the number too: k is the note on those behind it, u what there is behind it, and j the first of them
  note_step : (i k j : ℕ) (u : Under) → i < entry_count s → found_by k ≡ answer s j u
      → ((c : List ℕ) → u ≡ one c → (j < entry_count s) × (part s (offset_of s j) (length_of s j) ≡ c))
      → found_by (note_with s k (place s i)) ≡ answer s i (beside (part s (offset_of s i) (length_of s i)) u)
  note_step i k j nothing h e first = rw (note_nothing k e) (place_found s packed i h)
  note_step i k j (one c) h e first =
      let behind = first c refl in
      let here = place_found s packed i h in
      rw (
        note_chosen s k (place s i) _ _ (note_some k (ap is_nothing e)) here e,
        le-leb (offset_of s i + length_of s i) (length s) (part_inside s packed i h).1,
        le-leb (offset_of s j + length_of s j) (length s) (part_inside s packed j behind.0).1,
        behind.1,
      ) (pick (same_bytes (part s (offset_of s i) (length_of s i)) c) here)
    where
      pick : (t : Bool) → found_by (place s i) ≡ At (offset_of s i) (length_of s i)
          → found_by (cond t (place s i) different) ≡ answer s i (cond t (one (part s (offset_of s i) (length_of s i))) several)
      pick true here = here
      pick false here = refl
  note_step i k j several h e first =
      ap found_by (note_chosen s k (place s i) _ _ (note_some k (ap is_nothing e)) (place_found s packed i h) e)

  notes_found : (x n i : ℕ) → i + n ≤ entry_count s → found_by (note_from s x n i) ≡ answer s (first_from s x n i) (under x (entries_from s n i))
  notes_found x zero i h = refl
  notes_found x (suc n) i h =
      let behind = notes_found x n (i + 1) (omega arith) in
      elim (ℕ_discrete (sender s i) x) [
        | yes q ↦ rw (eq-eqb (sender s i) x q, among_step (part s (offset_of s i) (length_of s i)) (frames_under x (entries_from s n (i + 1))))
            (note_step i (note_from s x n (i + 1)) (first_from s x n (i + 1)) (under x (entries_from s n (i + 1))) (omega arith) behind
            (λ c e.
            let one = one_first (frames_under x (entries_from s n (i + 1))) c e in
            let f = first_frame s x n (i + 1) c one.0 one.1 in
            (omega (arith, f.inside), f.bytes)))
        | no d ↦ rw (ne_eqb (sender s i) x d) behind
      ]

  -- the note on a number, made of the whole directory
  pub note_found : (x : ℕ) → found_by (note_from s x (entry_count s) 0) ≡ found s x
  unfolding entries
  note_found x = notes_found x (entry_count s) 0 (omega arith)

-- no entry is under the number, so there is no note
pub note_none : (s : List ℕ) (x n i : ℕ) → (¬ Memᴰ x (map (λ (e : Entry). e.sender) (entries_from s n i))) → note_from s x n i ≡ no_frame
note_none s x zero i out = refl
note_none s x (suc n) i out =
    rw (ne_eqb (sender s i) x (λ q. out (Memᴰ.head (sym q)))) (note_none s x n (i + 1) (λ j. out (Memᴰ.tail j)))
