-- Laws of damage: other bytes, as many, in the place of one entry's frame leave a well packed tray well packed, and every other entry as it was.
use Rattle.std.specs.Prelude.{ℕ, zero, suc, ◌+◌, ◌-◌, ◌≤◌, ◌<◌, true, ◌⊎◌, ◌≢◌, ◌≡◌, refl, length, get_or, set, List, [], ◌∷◌, ◌++◌}
use mathlib.Core.List.{Memᴰ}
use Rattle.std.proofs.Common.{inl, inr, sym, ap, ◌∙◌, length-set, length-take-le, take_at, get_or-set_same, get_or-set_other, ext_get_or}
use Rattle.std.proofs.Common.{append_assoc, le-leb, ne_eqb, arith}
use Rattle.std.proofs.Math.Decide.{ℕ_discrete, dec_lt}
use Rattle.std.proofs.Math.ListN.{take, drop, length-append, length-drop, get_or-append}
use Rattle.std.proofs.Math.Seq.{drop_at, get_or-append-add, get_or-take, get_or-drop}
use Rattle.wire.specs.Limits.{entries_at, zero_at, offset_at, length_at}
use Rattle.wire.specs.Words.{half_at, word_at}
use Rattle.wire.specs.Tray.{Entry, round_of, entry_count, entry_at, offset_of, length_of, sender, chained, well_formed, part, entries, overwritten}
use Rattle.wire.specs.Found.{frames_under, among_frames, under, one, several}
use Rattle.wire.specs.Laws.Found.{under_member}
use Rattle.wire.specs.Laws.Tray.{part_inside, parts_apart, sender_is, entries_length, entry_at_lem}

-- ---- bytes of a part

-- two trays of one length, with the same n bytes from o on, have the same part there
part_same : (s s' : List ℕ) (o n : ℕ) → length s' ≡ length s → o + n ≤ length s → ((k : ℕ) → o ≤ k → k < o + n → get_or s' k 0 ≡ get_or s k 0)
    → part s' o n ≡ part s o n
unfolding part
part_same s s' o n as_long inside same =
    let long : (l : List ℕ) → length l ≡ length s → length (take n (drop o l)) ≡ n =
    λ l e. length-take-le n (drop o l) (rw (length-drop o l, e) (omega arith)) in
    rw (as_long, le-leb (o + n) (length s) inside)
    (ext_get_or 0 (take n (drop o s')) (take n (drop o s)) (long s' as_long ∙ sym (long s refl))
    (λ k l.
    let l' : k < n = rw (long s' as_long) at l in
    get_or-take n (drop o s') k 0 l' ∙ get_or-drop o s' k 0 ∙ same (o + k) (omega arith) (omega arith)
    ∙ sym (get_or-take n (drop o s) k 0 l' ∙ get_or-drop o s k 0)))

-- ---- the header and the directory

-- two trays of one length, with the same header and directory
module _ (s s' : List ℕ) (as_long : length s' ≡ length s) (packed : well_formed s ≡ true)
    (same : (k : ℕ) → k < entry_at (entry_count s) → get_or s' k 0 ≡ get_or s k 0) where
  half_kept : (at : ℕ) → at + 1 < entry_at (entry_count s) → half_at s' at ≡ half_at s at
  half_kept at l = rw (same at (omega arith), same (at + 1) l)

  word_kept : (at : ℕ) → at + 3 < entry_at (entry_count s) → word_at s' at ≡ word_at s at
  word_kept at l = rw (same at (omega arith), same (at + 1) (omega arith), same (at + 2) (omega arith), same (at + 3) l)

  round_kept : round_of s' ≡ round_of s
  unfolding round_of
  round_kept = rw (as_long, word_kept 0 (omega arith))

  count_kept : entry_count s' ≡ entry_count s
  unfolding entry_count
  count_kept = rw (as_long, half_kept entries_at (omega arith))

  offset_kept : (i : ℕ) → i < entry_count s → offset_of s' i ≡ offset_of s i
  offset_kept i l = half_kept (entry_at i + offset_at) (omega arith)

  length_kept : (i : ℕ) → i < entry_count s → length_of s' i ≡ length_of s i
  length_kept i l = half_kept (entry_at i + length_at) (omega arith)

  chained_kept : (n i at : ℕ) → i + n ≤ entry_count s → chained s' n i at ≡ chained s n i at
  chained_kept zero i at l = rw as_long
  chained_kept (suc n) i at l = rw (offset_kept i (omega arith), length_kept i (omega arith), chained_kept n (i + 1) (at + length_of s i) (omega arith))

  packed_kept : well_formed s' ≡ true
  unfolding well_formed
  packed_kept = rw (as_long, count_kept, half_kept zero_at (omega arith), chained_kept (entry_count s) 0 (entry_at (entry_count s)) (omega arith)) packed

  sender_kept : (i : ℕ) → i < entry_count s → sender s' i ≡ sender s i
  sender_kept i l = sender_is s' packed_kept i (rw count_kept l) ∙ word_kept (entry_at i) (omega arith) ∙ sym (sender_is s packed i l)

-- ---- other bytes for one frame

module _ (s : List ℕ) (i : ℕ) (new : List ℕ) (packed : well_formed s ≡ true) (counted : i < entry_count s) (as_many : length new ≡ length_of s i) where
  inside : (entry_at (entry_count s) ≤ offset_of s i) × (offset_of s i + length_of s i ≤ length s)
  inside = part_inside s packed i counted

  before_length : length (take (offset_of s i) s) ≡ offset_of s i
  before_length = length-take-le (offset_of s i) s (omega (arith, inside.1))

  -- the new bytes end where the frame ended
  front_length : length (take (offset_of s i) s ++ new) ≡ offset_of s i + length_of s i
  front_length = length-append (take (offset_of s i) s) new ∙ rw (before_length, as_many)

  same_length : length (overwritten s i new) ≡ length s
  unfolding overwritten
  same_length =
      let end = offset_of s i + length_of s i in
      length-append (take (offset_of s i) s ++ new) (drop end s) ∙ rw (front_length, length-drop end s) (omega (arith, inside.1))

  -- each byte before the frame or behind it is as it was
  byte_before : (k : ℕ) → k < offset_of s i → get_or (overwritten s i new) k 0 ≡ get_or s k 0
  unfolding overwritten
  byte_before k l =
      let before = take (offset_of s i) s in
      get_or-append (before ++ new) (drop (offset_of s i + length_of s i) s) 0 k (rw front_length (omega arith))
      ∙ get_or-append before new 0 k (rw before_length l)
      ∙ get_or-take (offset_of s i) s k 0 l

  byte_behind : (k : ℕ) → offset_of s i + length_of s i ≤ k → get_or (overwritten s i new) k 0 ≡ get_or s k 0
  unfolding overwritten
  byte_behind k l =
      let end = offset_of s i + length_of s i in
      let e : k ≡ end + (k - end) = omega arith in
      let behind = get_or-append-add (take (offset_of s i) s ++ new) (drop end s) (k - end) 0 ∙ get_or-drop end s (k - end) 0 in
      rw (front_length, ← e) at behind

  -- the directory lies before every frame
  directory_before : (k : ℕ) → k < entry_at (entry_count s) → get_or (overwritten s i new) k 0 ≡ get_or s k 0
  directory_before k l = byte_before k (omega (arith, inside.0))

  pub overwritten_packed : well_formed (overwritten s i new) ≡ true
  overwritten_packed = packed_kept s (overwritten s i new) same_length packed directory_before

  pub overwritten_round : round_of (overwritten s i new) ≡ round_of s
  overwritten_round = round_kept s (overwritten s i new) same_length packed directory_before

  pub overwritten_count : entry_count (overwritten s i new) ≡ entry_count s
  overwritten_count = count_kept s (overwritten s i new) same_length packed directory_before

  -- every entry still gives its frame's length, so another frame is overwritten by the same law
  pub overwritten_lengths : (j : ℕ) → j < entry_count s → length_of (overwritten s i new) j ≡ length_of s j
  overwritten_lengths = length_kept s (overwritten s i new) same_length packed directory_before

  -- entry i's part is the new bytes; any other's shares no byte with it, so it is as it was
  part_new : part (overwritten s i new) (offset_of s i) (length_of s i) ≡ new
  unfolding part overwritten
  part_new =
      let before = take (offset_of s i) s in
      let behind = drop (offset_of s i + length_of s i) s in
      rw (
        same_length,
        le-leb (offset_of s i + length_of s i) (length s) inside.1,
        append_assoc before new behind,
        drop_at before (new ++ behind) (offset_of s i) before_length,
      )
      (take_at new behind (length_of s i) as_many)

  part_kept : (j : ℕ) → j < entry_count s → j ≢ i → part (overwritten s i new) (offset_of s j) (length_of s j) ≡ part s (offset_of s j) (length_of s j)
  part_kept j l other =
      part_same s (overwritten s i new) (offset_of s j) (length_of s j) same_length (part_inside s packed j l).1
      (λ k a u. elim (dec_lt j i) [
        | yes q ↦ byte_before k (omega (arith, parts_apart s packed j i q counted))
        | no q ↦ byte_behind k (omega (arith, parts_apart s packed i j (omega arith) l))
      ])

  abbrev written : Entry
  written = record { sender = sender s i; bytes = new }

  entry_overwritten : (j : ℕ) → j < entry_count s → get_or (entries (overwritten s i new)) j written ≡ get_or (set (entries s) i written) j written
  entry_overwritten j l =
      let b = overwritten s i new in
      let o = offset_kept s b same_length packed directory_before j l in
      let n = overwritten_lengths j l in
      let x = sender_kept s b same_length packed directory_before j l in
      let at : get_or (entries b) j written ≡ record { sender = sender s j; bytes = part b (offset_of s j) (length_of s j) } =
      entry_at_lem b j written (rw overwritten_count l) ∙ rw (o, n, x) in
      elim (ℕ_discrete j i) [
        | yes e ↦ at ∙ rw (e, part_new) (sym (get_or-set_same (entries s) i written written (rw (entries_length s) counted)))
        | no other ↦ at ∙ rw (part_kept j l other) (sym (get_or-set_other (entries s) i j written written other ∙ entry_at_lem s j written l))
      ]

  -- the entries are those of s, but for the bytes of entry i
  pub overwritten_entries : entries (overwritten s i new) ≡ set (entries s) i (record { sender = sender s i; bytes = new })
  overwritten_entries =
      let b = overwritten s i new in
      let n = entries_length b ∙ overwritten_count in
      ext_get_or written (entries b) (set (entries s) i written) (n ∙ sym (length-set (entries s) i written ∙ entries_length s))
      (λ j l. entry_overwritten j (rw n at l))

-- ---- what there is under a number

-- an entry that is set stands in the list
set_member : (i : ℕ) (e : Entry) (es : List Entry) → i < length es → Memᴰ e (set es i e)
set_member i e [] h = absurd (omega arith)
set_member zero e (y ∷ es) h = Memᴰ.head refl
set_member (suc i) e (y ∷ es) h = Memᴰ.tail (set_member i e es (omega arith))

-- in place of entry i, another of the same sender: under another number there is what there was
frames_set : (x i : ℕ) (e : Entry) (es : List Entry) → e.sender ≢ x → e.sender ≡ (get_or es i e).sender → frames_under x (set es i e) ≡ frames_under x es
frames_set x i e [] d same = refl
frames_set x zero e (y ∷ es) d same = rw (← same, ne_eqb e.sender x d)
frames_set x (suc i) e (y ∷ es) d same = rw (frames_set x i e es d same)

-- under each number there is what there was; or the new bytes, or several frames
pub overwritten_under : (s : List ℕ) (i : ℕ) (new : List ℕ) → well_formed s ≡ true → i < entry_count s → length new ≡ length_of s i → (x : ℕ)
    → let es = entries (overwritten s i new) in
    (under x es ≡ under x (entries s)) ⊎ ((under x es ≡ one new) ⊎ (under x es ≡ several))
overwritten_under s i new packed counted as_many x =
    let e : Entry = record { sender = sender s i; bytes = new } in
    rw (overwritten_entries s i new packed counted as_many) (elim (ℕ_discrete (sender s i) x) [
      | yes q ↦ inr (under_member x e (set (entries s) i e) (set_member i e (entries s) (rw (entries_length s) counted)) q)
      | no d ↦ inl (ap among_frames (frames_set x i e (entries s) d (sym (ap (λ (y : Entry). y.sender) (entry_at_lem s i e counted)))))
    ])
