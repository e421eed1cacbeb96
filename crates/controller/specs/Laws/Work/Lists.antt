-- Laws of stored lists: the place of a number, a number put in at its place, and what the stored form is then.
use Rattle.std.specs.Prelude.{ℕ, zero, suc, ◌+◌, ◌-◌, ◌≤◌, ◌<◌, ◌≡◌, refl, false, ◌≢◌, List, [], ◌∷◌, ◌++◌, eqb, ltb, length, get_or, set}
use Rattle.std.specs.Prelude.{take, drop, replicate, Ok, Err}
use Rattle.std.proofs.Common.{sym, ap, ◌∙◌, inl, inr, append_assoc, add-one, arith, ltb-true, ltb-false, eq-eqb, ne_eqb, lt-ltb, le-ltb}
use Rattle.std.proofs.Common.{length-append, length-take, length-drop, take-suc, set-set, get_or-set_other, get_or-append-add, get_or-take}
use Rattle.std.proofs.Common.{get_or-drop, length-take-le, take-take}
use mathlib.Core.List.Memᴰ
use Rattle.std.proofs.lemmas.List.{drop-replicate, set_at, set_split}
use Rattle.std.proofs.Math.ListN.{get_or-append}
use Rattle.std.proofs.Math.Seq.{append_snoc, slice, slice_empty, slice-cons, length-slice, drop-append-add, take-length, drop-length}
use Rattle.wire.specs.Limits.{max_numbers}
use Rattle.wire.specs.Numbers.{stored, listed}
use Rattle.wire.specs.declared.frame.Numbers.{Numbers}
use Rattle.controller.specs.Lists.{In, mem, insert, Rising}
use Rattle.controller.specs.Work.Lists.{below, found_in, inserted_at, opened}
use Rattle.controller.specs.Laws.Lists.{true_or_false, out_mem, get_or_in, count_none, count_short, count_split, count_inside}
use Rattle.controller.specs.Laws.Lists.{rising_at, rising_no_repeats, rising_place, insert_in, mem_in, mem_out}

-- ---- the place of a number

-- a number of the list that is below x stands before the place of x, one that is not does not
pub below_past : (x : ℕ) (l : List ℕ) (i : ℕ) → Rising l → i < length l → get_or l i 0 < x → i < below x l
below_past x [] i up h lt = absurd (omega arith)
below_past x (y ∷ l) zero up h lt = rw (lt-ltb y x lt) (omega arith)
below_past x (y ∷ l) (suc i) up h lt =
    let first : y < x = omega (arith, up.0 (get_or l i 0) (get_or_in l i (omega arith))) in
    rw (lt-ltb y x first) (omega (arith, below_past x l i up.1 (omega arith) lt))

pub below_within : (x : ℕ) (l : List ℕ) (i : ℕ) → Rising l → i < length l → x ≤ get_or l i 0 → below x l ≤ i
below_within x [] i up h le = absurd (omega arith)
below_within x (y ∷ l) zero up h le =
    rw (le-ltb y x le, count_none (λ z. ltb z x) l (λ z j. le-ltb z x (omega (arith, up.0 z j)))) (omega arith)
below_within x (y ∷ l) (suc i) up h le = elim (true_or_false (ltb y x)) [
  | inl t ↦ rw t (omega (arith, below_within x l i up.1 (omega arith) le))
  | inr t ↦ rw t (omega (arith, below_within x l i up.1 (omega arith) le))
]

-- the number at the place of x is x exactly if x is in the list
pub below_finds : (x : ℕ) (l : List ℕ) → Rising l → below x l < length l → eqb (get_or l (below x l) 0) x ≡ mem x l
below_finds x l up h = elim (true_or_false (mem x l)) [
  | inl t ↦ rw t (eq-eqb _ x (rising_place x l up (mem_in l t)))
  | inr t ↦ rw t (ne_eqb _ x (λ e. mem_out l t (Memᴰ.cast (sym e) (get_or_in l (below x l) h))))
]

pub below_length : (x : ℕ) (l : List ℕ) → below x l ≤ length l
below_length x l = omega (arith, count_split (λ y. ltb y x) l)

pub below_inside : (x : ℕ) (l : List ℕ) → In x l → below x l < length l
below_inside x l i = count_short (λ y. ltb y x) x i (le-ltb x x (omega arith))

pub below_misses : (x : ℕ) (l : List ℕ) → length l ≤ below x l → mem x l ≡ false
below_misses x l h = out_mem l (λ i. absurd (omega (arith, below_inside x l i)))

-- what is found of a number: whether it is there, and its place
pub found_known : (x j : ℕ) (l : List ℕ) → Ok j ≡ found_in x l → In x l × (j ≡ below x l)
found_known x j l found = elim (true_or_false (mem x l)) [
  | inl t ↦ let same : Ok j ≡ Ok (below x l) = found ∙ rw t in (mem_in l t, cc)
  | inr t ↦ let apart : Ok j ≡ Err (below x l) = found ∙ rw t in cc
]

pub found_unknown : (x j : ℕ) (l : List ℕ) → Err j ≡ found_in x l → (¬ In x l) × (j ≡ below x l)
found_unknown x j l found = elim (true_or_false (mem x l)) [
  | inl t ↦ let apart : Err j ≡ Ok (below x l) = found ∙ rw t in cc
  | inr t ↦ let same : Err j ≡ Err (below x l) = found ∙ rw t in (mem_out l t, cc)
]

-- its place is one of the list's
pub found_inside : (x j : ℕ) (l : List ℕ) → Ok j ≡ found_in x l → j < length l
found_inside x j l found = let at = found_known x j l found in omega (arith, at.1, below_inside x l at.0)

-- a number that stands at a place of a rising list is in it, and that is its place
pub stands_there : (n : Numbers) (x i : ℕ) → Rising (listed n) → i < n.len → i < length (listed n) → get_or n.at i 0 ≡ x
    → In x (listed n) × (i ≡ below x (listed n))
stands_there n x i up used inside e =
    let here : get_or (listed n) i 0 ≡ x = get_or-take n.len n.at i 0 used ∙ e in
    (Memᴰ.cast (sym here) (get_or_in (listed n) i inside), sym (rising_at (listed n) i up inside) ∙ ap (λ (y : ℕ). below y (listed n)) here)

-- a greater number's place is not before it
pub below_more : (x y : ℕ) (l : List ℕ) → x ≤ y → below x l ≤ below y l
below_more x y [] h = omega arith
below_more x y (z ∷ l) h =
    let rest = below_more x y l h in
    elim (true_or_false (ltb z x)) [
      | inl t ↦ rw (t, lt-ltb z y (omega (arith, ltb-true z x t))) (omega arith)
      | inr t ↦ elim (true_or_false (ltb z y)) [ inl u ↦ rw (t, u) (omega arith) | inr u ↦ rw (t, u) rest ]
    ]

-- ---- a number put in at its place

-- no place moves to the front
pub below_insert : (x y : ℕ) (l : List ℕ) → Rising l → below y l ≤ below y (insert x l)
below_insert x y l up =
    count_inside (λ z. ltb z y) (λ z. ltb z y) l {m = insert x l} (rising_no_repeats l up) (λ z i. (insert_in x l).1 (inr i)) (λ z i t. t)

pub insert_place : (x : ℕ) (l : List ℕ) → Rising l → (¬ In x l) → inserted_at (below x l) x l ≡ insert x l
insert_place x [] up out = refl
insert_place x (y ∷ l) up out = elim (true_or_false (ltb x y)) [
  | inl t ↦ rw (le-ltb y x (omega (arith, ltb-true x y t)), count_none (λ z. ltb z x) l (λ z i. le-ltb z x (omega (arith, ltb-true x y t, up.0 z i))), t)
  | inr t ↦
      let apart : x ≢ y = λ e. out (Memᴰ.head e) in
      rw (lt-ltb y x (omega (arith, ltb-false x y t)), t, ne_eqb x y apart)
      (ap (λ (m : List ℕ). y ∷ m) (insert_place x l up.1 (λ i. out (Memᴰ.tail i))))
]

pub inserted_length : (i x : ℕ) (l : List ℕ) → i ≤ length l → length (inserted_at i x l) ≡ length l + 1
inserted_length i x l h = omega (arith, length-append (take i l) (x ∷ drop i l), length-take i l, length-drop i l)

-- put in behind the last
pub inserted_last : (n x : ℕ) (l : List ℕ) → length l ≡ n → inserted_at n x l ≡ l ++ x ∷ []
inserted_last n x l e = rw (← e, take-length l, drop-length l)

-- what stands in front of place i, at it and behind it, where x is put in there
module _ (i x : ℕ) (s r : List ℕ) (h : i ≤ length s) where
  pub put_before : (j : ℕ) → j < i → get_or (take i s ++ x ∷ r) j 0 ≡ get_or s j 0
  put_before j l = get_or-append (take i s) (x ∷ r) 0 j (rw (length-take-le i s h) l) ∙ get_or-take i s j 0 l

  put_at : (k : ℕ) → get_or (take i s ++ x ∷ r) (i + k) 0 ≡ get_or (x ∷ r) k 0
  put_at k = rw (length-take-le i s h) at (get_or-append-add (take i s) (x ∷ r) k 0)

  pub put_here : get_or (take i s ++ x ∷ r) i 0 ≡ x
  put_here = let e : i + 0 ≡ i = omega arith in rw e at (put_at 0)

  pub put_behind : (j : ℕ) → i < j → get_or (take i s ++ x ∷ r) j 0 ≡ get_or r (j - (i + 1)) 0
  put_behind j l = let e : i + suc (j - (i + 1)) ≡ j = omega arith in rw e at (put_at (suc (j - (i + 1))))

-- the numbers from place i on stand one place further, in a list and in its places
pub inserted_behind : (i x : ℕ) (l : List ℕ) (j : ℕ) → i ≤ length l → i < j → get_or (inserted_at i x l) j 0 ≡ get_or l (j - 1) 0
inserted_behind i x l j h k = let e : i + (j - (i + 1)) ≡ j - 1 = omega arith in put_behind i x l (drop i l) h j k ∙ get_or-drop i l (j - (i + 1)) 0 ∙ rw e

pub opened_behind : (i x n : ℕ) (s : List ℕ) (j : ℕ) → n ≤ length s → i < j → j ≤ n → get_or (opened i x n s) j 0 ≡ get_or s (j - 1) 0
opened_behind i x n s j h k l =
    let e : i + (j - (i + 1)) ≡ j - 1 = omega arith in
    let short : j - (i + 1) < length (slice i n s) = omega (arith, length-slice i n s h) in
    put_behind i x s (slice i n s ++ drop (n + 1) s) (omega arith) j k
    ∙ get_or-append (slice i n s) (drop (n + 1) s) 0 (j - (i + 1)) short
    ∙ get_or-drop i (take n s) (j - (i + 1)) 0
    ∙ rw e (get_or-take n s (j - 1) 0 (omega arith))

pub opened_length : (i x n : ℕ) (s : List ℕ) → i ≤ n → n < length s → length (opened i x n s) ≡ length s
opened_length i x n s h k =
    let behind = slice i n s ++ drop (n + 1) s in
    omega (
      arith,
      length-append (take i s) (x ∷ behind),
      length-take-le i s (omega arith),
      length-append (slice i n s) (drop (n + 1) s),
      length-slice i n s (omega arith),
      length-drop (n + 1) s,
    )

-- ---- the places, as the numbers move up one by one

pub opened_first : (x n : ℕ) (s : List ℕ) → n < length s → set s n x ≡ opened n x n s
opened_first x n s h = set_split s n x h ∙ rw (slice_empty, add-one)

module _ (x n i : ℕ) (s at : List ℕ) (h : i < n) (k : n ≤ length s) (e : set at (i + 1) x ≡ opened (i + 1) x n s) where
  -- what stands behind place i + 1
  abbrev behind : List ℕ
  behind = slice (i + 1) n s ++ drop (n + 1) s

  front_length : length (take (i + 1) s) ≡ i + 1
  front_length = length-take-le (i + 1) s (omega arith)

  -- the number at place i has not moved yet
  unmoved : get_or at i 0 ≡ get_or s i 0
  unmoved =
      sym (get_or-set_other at (i + 1) i x 0 (omega arith))
      ∙ ap (λ (m : List ℕ). get_or m i 0) e
      ∙ get_or-append (take (i + 1) s) (x ∷ behind) 0 i (rw front_length (omega arith))
      ∙ get_or-take (i + 1) s i 0 (omega arith)

  moved : (y : ℕ) → y ≡ get_or s i 0 → set at (i + 1) y ≡ take i s ++ (y ∷ y ∷ behind)
  moved y f =
      let split : take (i + 1) s ≡ take i s ++ y ∷ [] = rw (f, add-one) (take-suc s i 0 (omega arith)) in
      sym (set-set at (i + 1) x y)
      ∙ ap (λ (m : List ℕ). set m (i + 1) y) e
      ∙ set_at (take (i + 1) s) x behind y (i + 1) front_length
      ∙ ap (λ (m : List ℕ). m ++ (y ∷ behind)) split
      ∙ append_snoc (take i s) y (y ∷ behind)

  pub opened_step : set (set at (i + 1) (get_or at i 0)) i x ≡ opened i x n s
  opened_step =
      let y = get_or at i 0 in
      let next : slice i n s ≡ y ∷ slice (i + 1) n s = slice-cons i n s 0 h k ∙ rw (unmoved, add-one) in
      rw (moved y unmoved, next)
      (set_at (take i s) y (y ∷ behind) x i (length-take-le i s (omega arith)))

-- ---- the stored form

-- behind a list all places are 0, also from a later place on
pub unused_from : (l : List ℕ) (j : ℕ) → length l ≤ j → drop j (stored l).at ≡ replicate (max_numbers - j) 0
unused_from l j h =
    let passed = j - length l in
    let unused = max_numbers - length l in
    let at : length l + passed ≡ j = omega arith in
    let left : unused - passed ≡ max_numbers - j = omega arith in
    let zeros : drop j (stored l).at ≡ replicate (unused - passed) 0 =
    rw at at (drop-append-add l (replicate unused 0) passed) ∙ drop-replicate passed unused 0 in
    rw left at zeros

-- the unused places behind the one that is taken next
unused_rest : (n : Numbers) → stored (listed n) ≡ n → n.len < max_numbers → drop (n.len + 1) n.at ≡ replicate (max_numbers - (n.len + 1)) 0
unused_rest n e h =
    let used : length (listed n) ≡ n.len = ap (λ (m : Numbers). m.len) e in
    sym (ap (λ (m : Numbers). drop (n.len + 1) m.at) e) ∙ unused_from (listed n) (n.len + 1) (omega arith)

places_stored : (n : Numbers) (i x : ℕ) → stored (listed n) ≡ n → n.len < max_numbers → i ≤ n.len
    → opened i x n.len n.at ≡ inserted_at i x (listed n) ++ replicate (max_numbers - (n.len + 1)) 0
places_stored n i x e h k =
    let l = listed n in
    let zeros : List ℕ = replicate (max_numbers - (n.len + 1)) 0 in
    ap (λ (r : List ℕ). take i n.at ++ (x ∷ (drop i l ++ r))) (unused_rest n e h)
    ∙ ap (λ (f : List ℕ). f ++ (x ∷ (drop i l ++ zeros))) (sym (take-take i n.len n.at k))
    ∙ sym (append_assoc (take i l) (x ∷ drop i l) zeros)

pub opened_stored : (n : Numbers) (i x : ℕ) (at : List ℕ) → stored (listed n) ≡ n → n.len < max_numbers → i ≤ n.len → at ≡ opened i x n.len n.at
    → ◌≡◌ {A = Numbers} (record { len = n.len + 1; at = at }) (stored (inserted_at i x (listed n)))
opened_stored n i x at e h k p =
    let l = inserted_at i x (listed n) in
    let used : length (listed n) ≡ n.len = ap (λ (m : Numbers). m.len) e in
    let size : n.len + 1 ≡ length l = sym (inserted_length i x (listed n) (omega arith) ∙ rw used) in
    let places : at ≡ (stored l).at = p ∙ places_stored n i x e h k ∙ ap (λ (c : ℕ). l ++ replicate (max_numbers - c) 0) size in
    λ j. record { len = size j; at = places j }
