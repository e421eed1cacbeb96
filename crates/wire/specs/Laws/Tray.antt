-- Laws of trays.
use Rattle.std.specs.Prelude.{ℕ, zero, suc, ◌+◌, ◌*◌, ◌-◌, ◌/◌, ◌≤◌, ◌<◌, Bool, true, false, cond, ◌&&◌, List, [], ◌≡◌, refl, leb, eqb, length}
use Rattle.std.specs.Prelude.{get_or, take, drop}
use Rattle.std.proofs.Math.Bool.{and-eq-true_iff}
use Rattle.std.proofs.Math.Path.{ap}
use Rattle.std.proofs.Common.{subst, ◌∙◌, ⊎_elim, leb-true, eqb-true, le-leb, lt-ltb, eq-or-lt_of_le, length-take, length-drop, get_or-take}
use Rattle.std.proofs.Common.{get_or-drop, length-take-le, arith}
use Rattle.wire.specs.Limits.{tray_header, entries_at, entry_width, offset_at, zero_at, max_tray, max_entries}
use Rattle.wire.specs.Laws.Words.{half_below}
use Rattle.wire.specs.Words.{Below, half_at, word_at}
use Rattle.wire.specs.Tray.{Entry, entry_count, entry_at, offset_of, length_of, directory, word_of, sender, place, chained, well_formed, part}
use Rattle.wire.specs.Tray.{entries_from, entries}

-- ---- the directory

pub entry_count_below : (s : List ℕ) → Below 256 s → entry_count s < 65536
unfolding entry_count
entry_count_below s b = half_below s b entries_at (leb tray_header (length s))

-- one step along the directory, as a loop over it takes it
pub chained_step : (s : List ℕ) (n i at : ℕ) → i < n → chained s (n - i) i at ≡ (eqb (offset_of s i) at && chained s (n - (i + 1)) (i + 1) (at + length_of s i))
chained_step s n i at h = let e : n - i ≡ suc (n - (i + 1)) = omega arith in rw e

-- ---- what "well packed" gives

pub record WellFormed (s : List ℕ) : Type 0 where
  pub header : tray_header ≤ length s
  pub short : length s ≤ max_tray
  pub few : entry_count s ≤ max_entries
  pub directory : entry_at (entry_count s) ≤ length s
  pub frames : chained s (entry_count s) 0 (entry_at (entry_count s)) ≡ true

pub well_formed_gives : (s : List ℕ) → well_formed s ≡ true → WellFormed s
unfolding well_formed
well_formed_gives s h =
    let e₅ = (and-eq-true_iff _ (chained s (entry_count s) 0 (entry_at (entry_count s)))).0 h in
    let e₄ = (and-eq-true_iff _ (leb (entry_at (entry_count s)) (length s))).0 e₅.0 in
    let e₃ = (and-eq-true_iff _ (eqb (half_at s zero_at) 0)).0 e₄.0 in
    let e₂ = (and-eq-true_iff _ (leb (entry_count s) max_entries)).0 e₃.0 in
    let e₁ = (and-eq-true_iff (leb tray_header (length s)) (leb (length s) max_tray)).0 e₂.0 in
    record {
      header = leb-true _ _ e₁.0;
      short = leb-true _ _ e₁.1;
      few = leb-true _ _ e₂.1;
      directory = leb-true _ _ e₄.1;
      frames = e₅.1;
    }

-- a chain of frames ends at the tray's end, so it began before it
chained_starts : (s : List ℕ) (n i at : ℕ) → chained s n i at ≡ true → at ≤ length s
chained_starts s zero i at h = let e = eqb-true at (length s) h in omega arith
chained_starts s (suc n) i at h =
    let e = (and-eq-true_iff (eqb (offset_of s i) at) (chained s n (i + 1) (at + length_of s i))).0 h in
    let l = chained_starts s n (i + 1) (at + length_of s i) e.1 in
    omega arith

-- frame j of a chain begins no earlier than the first and ends within the tray
record Within (s : List ℕ) (at i : ℕ) : Type 0 where
  begins : at ≤ offset_of s i
  ends : offset_of s i + length_of s i ≤ length s

chained_within : (s : List ℕ) (n i at j : ℕ) → chained s n i at ≡ true → i ≤ j → j < i + n → Within s at j
chained_within s zero i at j h l u = absurd (omega arith)
chained_within s (suc n) i at j h l u =
    let e = (and-eq-true_iff (eqb (offset_of s i) at) (chained s n (i + 1) (at + length_of s i))).0 h in
    let o : offset_of s i ≡ at = eqb-true (offset_of s i) at e.0 in
    let m = chained_starts s n (i + 1) (at + length_of s i) e.1 in
    ⊎_elim
    (λ (q : i ≡ j). subst (λ (k : ℕ). Within s at k) q (record { begins = omega arith; ends = omega arith }))
    (λ (q : i < j).
    let w = chained_within s n (i + 1) (at + length_of s i) j e.1 (omega arith) (omega arith) in
    record { begins = omega (arith, w.begins); ends = w.ends })
    (eq-or-lt_of_le l)

-- each entry's part lies in the tray, behind the directory
pub part_inside : (s : List ℕ) → well_formed s ≡ true → (i : ℕ) → i < entry_count s
    → (entry_at (entry_count s) ≤ offset_of s i) × (offset_of s i + length_of s i ≤ length s)
part_inside s h i l =
    let w = chained_within s (entry_count s) 0 (entry_at (entry_count s)) i (well_formed_gives s h).frames (omega arith) (omega arith) in
    (w.begins, w.ends)

-- of two frames of a chain, the earlier entry's ends no later than the other's begins
chained_apart : (s : List ℕ) (n k at i j : ℕ) → chained s n k at ≡ true → k ≤ i → i < j → j < k + n → offset_of s i + length_of s i ≤ offset_of s j
chained_apart s zero k at i j h a l u = absurd (omega arith)
chained_apart s (suc n) k at i j h a l u =
    let e = (and-eq-true_iff (eqb (offset_of s k) at) (chained s n (k + 1) (at + length_of s k))).0 h in
    let o : offset_of s k ≡ at = eqb-true (offset_of s k) at e.0 in
    ⊎_elim
    (λ (q : k ≡ i).
    let w = chained_within s n (k + 1) (at + length_of s k) j e.1 (omega arith) (omega arith) in
    subst (λ (m : ℕ). offset_of s m + length_of s m ≤ offset_of s j) q (omega (arith, w.begins)))
    (λ (q : k < i). chained_apart s n (k + 1) (at + length_of s k) i j e.1 (omega arith) l (omega arith))
    (eq-or-lt_of_le a)

-- so no two entries' parts share a byte
pub parts_apart : (s : List ℕ) → well_formed s ≡ true → (i j : ℕ) → i < j → j < entry_count s → offset_of s i + length_of s i ≤ offset_of s j
parts_apart s h i j l u = chained_apart s (entry_count s) 0 (entry_at (entry_count s)) i j (well_formed_gives s h).frames (omega arith) l (omega arith)

-- ---- the bytes of a part

pub part_byte : (s : List ℕ) (o n k : ℕ) → k < length (part s o n) → get_or (part s o n) k 0 ≡ get_or s (o + k) 0
unfolding part
part_byte s o n k = pick (leb (o + n) (length s))
  where
    pick : (t : Bool) → k < length (cond t (take n (drop o s)) []) → get_or (cond t (take n (drop o s)) []) k 0 ≡ get_or s (o + k) 0
    pick true h = get_or-take n (drop o s) k 0 (omega (arith, length-take n (drop o s))) ∙ get_or-drop o s k 0
    pick false h = absurd (omega arith)

pub part_length : (s : List ℕ) (o n : ℕ) → o + n ≤ length s → length (part s o n) ≡ n
unfolding part
part_length s o n h = rw (le-leb (o + n) (length s) h) (length-take-le n (drop o s) (omega (arith, length-drop o s)))

-- the words of an entry, which lie behind the header
module _ (s : List ℕ) (h : well_formed s ≡ true) where
  pub directory_length : length (directory s) ≡ entry_width * entry_count s
  directory_length = part_length s tray_header (entry_width * entry_count s) (omega (arith, (well_formed_gives s h).directory))

  pub directory_word : (i at : ℕ) → i < entry_count s → at + 4 ≤ entry_width → word_of (directory s) i at ≡ word_at s (entry_at i + at)
  directory_word i at l u =
      let d = directory s in
      let size = directory_length in
      let counted : length d / entry_width ≡ entry_count s = omega (arith, size) in
      let byte : (p q : ℕ) → p < length d → tray_header + p ≡ q → get_or d p 0 ≡ get_or s q 0 =
      λ p q m e. part_byte s tray_header (entry_width * entry_count s) p m ∙ ap (λ (k : ℕ). get_or s k 0) e in
      let from = entry_width * i + at in
      let to = entry_at i + at in
      rw (
        counted,
        lt-ltb i (entry_count s) l,
        byte from to (omega (arith, size)) (omega arith),
        byte (from + 1) (to + 1) (omega (arith, size)) (omega arith),
        byte (from + 2) (to + 2) (omega (arith, size)) (omega arith),
        byte (from + 3) (to + 3) (omega (arith, size)) (omega arith),
      )

  pub sender_is : (i : ℕ) → i < entry_count s → sender s i ≡ word_at s (entry_at i)
  unfolding sender
  sender_is i l = let e : entry_at i + 0 ≡ entry_at i = omega arith in directory_word i 0 l (omega arith) ∙ ap (word_at s) e

  pub place_is : (i : ℕ) → i < entry_count s → place s i ≡ word_at s (entry_at i + offset_at)
  unfolding place
  place_is i l = directory_word i offset_at l (omega arith)

-- ---- the tray as a list of entries

entries_from_length : (s : List ℕ) (n i : ℕ) → length (entries_from s n i) ≡ n
entries_from_length s zero i = refl
entries_from_length s (suc n) i = ap suc (entries_from_length s n (i + 1))

pub entries_length : (s : List ℕ) → length (entries s) ≡ entry_count s
unfolding entries
entries_length s = entries_from_length s (entry_count s) 0

entries_from_at : (s : List ℕ) (n k j : ℕ) (d : Entry) → j < n
    → get_or (entries_from s n k) j d ≡ record { sender = sender s (k + j); bytes = part s (offset_of s (k + j)) (length_of s (k + j)) }
entries_from_at s zero k j d l = absurd (omega arith)
entries_from_at s (suc n) k zero d l = let e : k + 0 ≡ k = omega arith in rw e
entries_from_at s (suc n) k (suc j) d l = let e : k + suc j ≡ k + 1 + j = omega arith in rw e (entries_from_at s n (k + 1) j d (omega arith))

pub entry_at_lem : (s : List ℕ) (i : ℕ) (d : Entry) → i < entry_count s
    → get_or (entries s) i d ≡ record { sender = sender s i; bytes = part s (offset_of s i) (length_of s i) }
unfolding entries
entry_at_lem s i d l = let e : 0 + i ≡ i = omega arith in rw e at (entries_from_at s (entry_count s) 0 i d l)
