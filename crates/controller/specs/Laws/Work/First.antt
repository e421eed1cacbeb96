-- Laws of the record beside those heard, as first.rt tests it, and of lists, as sound.rt does: counts of zeros say what the rules say place by place.
use Rattle.std.specs.Prelude.{ℕ, zero, suc, ◌+◌, ◌-◌, ◌≤◌, ◌<◌, Bool, true, false, not, cond, ◌&&◌, List, [], ◌∷◌, ◌++◌, ◌≢◌, ◌≡◌, refl, ltb, eqb}
use Rattle.std.specs.Prelude.{get_or, take, drop, replicate}
use Rattle.std.proofs.Math.Bool.{and_assoc, and-false}
use mathlib.Core.List.Memᴰ
use mir.Val.{bool_byte}
use Rattle.std.proofs.Common.{inl, inr, ◌∙◌, arith, eqb-true, eq-eqb, ne_eqb, lt-ltb, le-leb, length-drop, take-append-drop, length-take-le}
use Rattle.std.proofs.Math.Path.{sym, ap}
use Rattle.std.proofs.lemmas.Bool.{eqb-false, lt-leb}
use Rattle.std.proofs.Math.Dec.{eqb-suc-suc}
use Rattle.std.proofs.Math.ListN.{length}
use Rattle.std.proofs.Math.Seq.{get_or-take}
use Rattle.wire.specs.Limits.{max_numbers, last_round}
use Rattle.wire.specs.Numbers.{rising, stored}
use Rattle.controller.specs.Lists.{In, count_if, Rising}
use Rattle.controller.specs.State.{same, recorded, first_fits, alongside, sound_beside}
use Rattle.controller.specs.Work.First.{is_zero, timely}
use Rattle.controller.specs.Laws.Lists.{true_or_false, get_or_in, count_append, count_further, count_none, count_short, count_split, rising_gives}
use Rattle.controller.specs.Laws.State.{same_gives, same_append}

-- ---- counting

-- one place more
pub zeros_further : (s : List ℕ) (i n : ℕ) → i < length s → n ≡ count_if is_zero (take i s)
    → n + bool_byte (is_zero (get_or s i 0)) ≡ count_if is_zero (take (i + 1) s)
zeros_further s i n h sum = rw (sum, count_further is_zero s i h) (ap (λ (m : ℕ). count_if is_zero (take i s) + m) (one_if (is_zero (get_or s i 0))))
  where
    one_if : (t : Bool) → bool_byte t ≡ cond t 1 0
    one_if true = refl
    one_if false = refl

-- of i places at most i are 0
pub zeros_few : (s : List ℕ) (i : ℕ) → i ≤ length s → count_if is_zero (take i s) ≤ i
zeros_few s i h = omega (arith, count_split is_zero (take i s), length-take-le i s h)

-- ---- the used places

-- two tests in the other order
swap : (a b c : Bool) → (a && (b && c)) ≡ (b && (a && c))
swap true b c = refl
swap false b c = sym (and-false b)

-- what stands beside another's number: not 0, and timely
fits_other : (own x t : ℕ) → x ≢ own → first_fits own x t ≡ (not (is_zero t) && ltb t last_round)
fits_other own x t apart = elim (true_or_false (is_zero t)) [
  | inl z ↦ rw (ne_eqb x own apart, lt-leb 1 t (omega (arith, eqb-true t 0 z)), z)
  | inr z ↦ let some : t ≢ 0 = eqb-false t 0 z in rw (ne_eqb x own apart, le-leb 1 t (omega arith), z)
]

-- beside numbers of which none is the own one, no place is 0
fits_others : (own : ℕ) (l u : List ℕ) → ((x : ℕ) → In x l → x ≢ own) → length u ≡ length l
    → alongside (first_fits own) l u ≡ (eqb (count_if is_zero u) 0 && timely u)
fits_others own [] [] apart e = refl
fits_others own [] (t ∷ u) apart e = absurd (omega arith)
fits_others own (x ∷ l) [] apart e = absurd (omega arith)
fits_others own (x ∷ l) (t ∷ u) apart e =
    let here = fits_other own x t (apart x (Memᴰ.head refl)) in
    let rest = fits_others own l u (λ y i. apart y (Memᴰ.tail i)) (omega arith) in
    elim (true_or_false (is_zero t)) [
      | inl z ↦ rw (here, z, ne_eqb (suc (count_if is_zero u)) 0 (λ q. absurd (omega arith)))
      | inr z ↦ rw (here, z, rest) (swap (ltb t last_round) (eqb (count_if is_zero u) 0) (timely u))
    ]

-- a place that is 0 is counted
zero_counted : (u : List ℕ) (i : ℕ) → i < length u → (is_zero (get_or u i 0) && eqb (count_if is_zero u) 0) ≡ false
zero_counted u i h = elim (true_or_false (is_zero (get_or u i 0))) [
  | inl z ↦
      let others = count_short (λ t. not (is_zero t)) (get_or u i 0) (get_or_in u i h) (ap not z) in
      rw (z, ne_eqb (count_if is_zero u) 0 (λ q. absurd (omega (arith, count_split is_zero u))))
  | inr z ↦ rw z
]

-- beside rising numbers, of which the one at place i is the own one, that place is 0 and no other is
fits_used : (l u : List ℕ) (i : ℕ) → Rising l → length u ≡ length l → i < length l
    → alongside (first_fits (get_or l i 0)) l u ≡ (is_zero (get_or u i 0) && eqb (count_if is_zero u) 1 && timely u)
fits_used [] u i up e h = absurd (omega arith)
fits_used (x ∷ l) [] i up e h = absurd (omega arith)
fits_used (x ∷ l) (t ∷ u) zero up e h =
    let rest = fits_others x l u (λ y i q. absurd (omega (arith, up.0 y i))) (omega arith) in
    elim (true_or_false (is_zero t)) [
      | inl z ↦ rw (eq-eqb x x refl, z, eqb-suc-suc (count_if is_zero u) 0, lt-ltb t last_round (omega (arith, eqb-true t 0 z))) rest
      | inr z ↦ rw (eq-eqb x x refl, z)
    ]
fits_used (x ∷ l) (t ∷ u) (suc i) up e h =
    let own = get_or l i 0 in
    let here = fits_other own x t (λ q. absurd (omega (arith, up.0 own (get_or_in l i (omega arith))))) in
    let rest = fits_used l u i up.1 (omega arith) (omega arith) in
    elim (true_or_false (is_zero t)) [
      | inl z ↦ rw (here, z, eqb-suc-suc (count_if is_zero u) 0, zero_counted u i (omega arith))
      | inr z ↦ rw (here, z, rest) (swap (ltb t last_round) (is_zero (get_or u i 0) && eqb (count_if is_zero u) 1) (timely u))
    ]

-- ---- the unused places

-- the used places are as they are recorded, so the others decide
pub recorded_is : (w : List ℕ) (n : ℕ) → n ≤ length w → same w (recorded (take n w)) ≡ same (drop n w) (replicate (max_numbers - n) 0)
recorded_is w n h =
    ap (λ (s : List ℕ). same s (recorded (take n w))) (sym (take-append-drop n w))
    ∙ same_append (take n w) (drop n w) (replicate (max_numbers - length (take n w)) 0)
    ∙ rw (length-take-le n w h)

-- they are 0 where there are as many 0s as places
all_zero : (r : List ℕ) (k : ℕ) → length r ≡ k → same r (replicate k 0) ≡ eqb (count_if is_zero r) k
all_zero [] zero e = refl
all_zero [] (suc k) e = absurd (omega arith)
all_zero (t ∷ r) zero e = absurd (omega arith)
all_zero (t ∷ r) (suc k) e = elim (true_or_false (is_zero t)) [
  | inl z ↦ rw (z, eqb-suc-suc (count_if is_zero r) k) (all_zero r k (omega arith))
  | inr z ↦ rw (z, ne_eqb (count_if is_zero r) (suc k) (λ q. absurd (omega (arith, count_split is_zero r))))
]

-- and 0s are timely
zeros_timely : (k : ℕ) → timely (replicate k 0) ≡ true
zeros_timely zero = refl
zeros_timely (suc k) = zeros_timely k

-- ---- all places

-- the used and the unused places, each by themselves
pub timely_append : (u r : List ℕ) → timely (u ++ r) ≡ (timely u && timely r)
timely_append [] r = refl
timely_append (t ∷ u) r = rw (timely_append u r) (sym (and_assoc (ltb t last_round) (timely u) (timely r)))

-- a 0s in the used places, b in the others: where a is known, the count of all says whether b is one for each of the others
rest_test : (a b n k : ℕ) → a ≡ k → n ≤ max_numbers → eqb (a + b + n) (max_numbers + k) ≡ eqb b (max_numbers - n)
rest_test a b n k known h = elim (true_or_false (eqb b (max_numbers - n))) [
  | inl e ↦ rw e (eq-eqb (a + b + n) (max_numbers + k) (omega (arith, eqb-true b (max_numbers - n) e)))
  | inr e ↦
      let apart : b ≢ max_numbers - n = eqb-false b (max_numbers - n) e in
      rw e (ne_eqb (a + b + n) (max_numbers + k) (λ q. absurd (omega arith)))
]

-- a: the own place is 0; b: one used place is; c: the count of all fits; p, q: the used and the unused places are timely; z: the unused ones are 0
join : (a b c p q z : Bool) → (b ≡ true → c ≡ z) → (z ≡ true → q ≡ true) → (a && b && c && (p && q)) ≡ (a && b && p && z)
join false b c p q z counted timed = refl
join true false c p q z counted timed = refl
join true true c p q true counted timed = rw (counted refl, timed refl)
join true true c p q false counted timed = rw (counted refl, and-false p)

module _ (w : List ℕ) (n : ℕ) (places : length w ≡ max_numbers) (fits : n ≤ max_numbers) where
  abbrev used : List ℕ
  used = take n w

  abbrev unused : List ℕ
  unused = drop n w

  -- the unused places are 0
  abbrev clear : Bool
  clear = same unused (replicate (max_numbers - n) 0)

  -- where so many used places are 0, the count of all tells of the unused ones
  counted : (k : ℕ) → count_if is_zero used ≡ k → eqb (count_if is_zero w + n) (max_numbers + k) ≡ clear
  counted k some =
      ap (λ (s : List ℕ). eqb (count_if is_zero s + n) (max_numbers + k)) (sym (take-append-drop n w))
      ∙ rw (count_append is_zero used unused) (rest_test (count_if is_zero used) (count_if is_zero unused) n k some fits)
      ∙ sym (all_zero unused (max_numbers - n) (length-drop n w ∙ rw places))

  -- numbers that rise are not 0; so it is with a list
  pub list_is : (rising 0 used && eqb (count_if is_zero w + n) max_numbers) ≡ (rising 0 used && same w (stored used).at)
  list_is = elim (true_or_false (rising 0 used)) [
    | inl t ↦
        let none = count_none is_zero used (λ x i. ne_eqb x 0 (λ e. absurd (omega (arith, (rising_gives used t).1 x i)))) in
        rw t (counted 0 none ∙ sym (recorded_is w n (rw places fits)))
    | inr t ↦ rw t
  ]

  -- which are timely then
  timed : clear ≡ true → timely unused ≡ true
  timed h = rw (same_gives unused (replicate (max_numbers - n) 0) h) (zeros_timely (max_numbers - n))

  -- what rounds_sound tests is the rules' soundness, beside any n rising numbers
  pub rounds_sound_is : (l : List ℕ) (i : ℕ) → length l ≡ n → Rising l → i < n
      → (is_zero (get_or w i 0) && eqb (count_if is_zero (take n w)) 1 && eqb (count_if is_zero w + n) (max_numbers + 1) && timely w)
      ≡ sound_beside (get_or l i 0) l w
  unfolding sound_beside
  rounds_sound_is l i size up h =
      let few : n ≤ length w = rw places fits in
      let both : timely w ≡ (timely used && timely unused) = ap timely (sym (take-append-drop n w)) ∙ timely_append used unused in
      let beside = fits_used l used i up (length-take-le n w few ∙ sym size) (rw size h) in
      rw (both, size, recorded_is w n few, beside, get_or-take n w i 0 h)
      (join (is_zero (get_or w i 0)) (eqb (count_if is_zero used) 1) _ (timely used) (timely unused) clear
      (λ one. counted 1 (eqb-true (count_if is_zero used) 1 one)) timed)
