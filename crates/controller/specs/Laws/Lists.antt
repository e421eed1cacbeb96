-- Laws of lists of controller numbers.
use Rattle.std.specs.Prelude.{ℕ, zero, suc, ◌+◌, ◌≤◌, ◌<◌, ◌≡◌, refl, Bool, true, false, not, cond, ◌⊎◌, ◌≢◌, ◌↔◌, List, [], ◌∷◌, ◌++◌, eqb, ltb}
use Rattle.std.specs.Prelude.{length, get_or, take}
use Rattle.std.proofs.Common.{zero-le, suc-le-suc, sym, ap, ◌∙◌, subst, true≢false, inl, inr, add-one, arith, eqb-true, ltb-true, ltb-false, eq-eqb}
use Rattle.std.proofs.Common.{lt-ltb, le-ltb, take-suc}
use Rattle.std.proofs.Math.Bool.{and-eq-true_iff}
use mathlib.Core.List.Memᴰ
use Rattle.std.proofs.Math.Decide.{ℕ_discrete}
use Rattle.std.proofs.lemmas.Bool.{eqb-false}
use Rattle.wire.specs.Numbers.{rising}
use Rattle.controller.specs.Lists.{In, Inside, mem, count_if, keep, insert, insert_all, NoRepeats, Rising}

-- ---- tests and membership

-- a test in hand, to go by cases on it and keep what it showed
pub true_or_false : (b : Bool) → (b ≡ true) ⊎ (b ≡ false)
true_or_false true = inl refl
true_or_false false = inr refl

pub in_mem : {x : ℕ} {l : List ℕ} → In x l → mem x l ≡ true
in_mem {x} (Memᴰ.head {x = y} {xs = l} e) = rw (eq-eqb x y e)
in_mem {x} (Memᴰ.tail {x = y} {xs = l} i) = elim (true_or_false (eqb x y)) [ inl e ↦ rw e | inr e ↦ rw e (in_mem i) ]

pub mem_in : {x : ℕ} (l : List ℕ) → mem x l ≡ true → In x l
mem_in [] t = absurd (true≢false (sym t))
mem_in {x} (y ∷ l) t = elim (true_or_false (eqb x y)) [
  | inl e ↦ Memᴰ.head (eqb-true x y e)
  | inr e ↦ Memᴰ.tail (mem_in l (rw e at t))
]

pub out_mem : {x : ℕ} (l : List ℕ) → (¬ In x l) → mem x l ≡ false
out_mem {x} l out = elim (true_or_false (mem x l)) [ inl t ↦ absurd (out (mem_in l t)) | inr t ↦ t ]

pub mem_out : {x : ℕ} (l : List ℕ) → mem x l ≡ false → ¬ In x l
mem_out l t i = true≢false (sym (in_mem i) ∙ t)

pub in_or_not : (x : ℕ) (l : List ℕ) → In x l ⊎ (¬ In x l)
in_or_not x l = elim (true_or_false (mem x l)) [ inl t ↦ inl (mem_in l t) | inr t ↦ inr (λ i. true≢false (sym (in_mem i) ∙ t)) ]

pub get_or_in : (l : List ℕ) (i : ℕ) → i < length l → In (get_or l i 0) l
get_or_in [] i h = absurd (omega arith)
get_or_in (x ∷ l) zero h = Memᴰ.head refl
get_or_in (x ∷ l) (suc i) h = Memᴰ.tail (get_or_in l i (omega arith))

-- what is said of places behind the end does not matter before it
pub get_or_inside : (l : List ℕ) (i d e : ℕ) → i < length l → get_or l i d ≡ get_or l i e
get_or_inside [] i d e h = absurd (omega arith)
get_or_inside (x ∷ l) zero d e h = refl
get_or_inside (x ∷ l) (suc i) d e h = get_or_inside l i d e (omega arith)

pub list_some : (l : List ℕ) → 0 < length l → (x : ℕ) × In x l
list_some [] h = absurd (omega arith)
list_some (x ∷ l) h = (x, Memᴰ.head refl)

-- ---- counts

-- m less one place of x: the others stay in it, and a test that x passes has one fewer
record Without (x : ℕ) (m : List ℕ) : Type 0 where
  rest : List ℕ
  stays : (y : ℕ) → In y m → y ≢ x → In y rest
  fewer : (f : ℕ → Bool) → f x ≡ true → count_if f m ≡ suc (count_if f rest)

without : {x : ℕ} {m : List ℕ} → In x m → Without x m
without (Memᴰ.head {xs = m} e) = record {
  rest = m;
  stays = λ y i d. elim (Memᴰ.cases_cons i) [ inl u ↦ absurd (d (u ∙ sym e)) | inr j ↦ j ];
  fewer = λ f t. rw (← e, t);
}
without (Memᴰ.tail {x = z} {xs = m} i) =
    let w = without i in
    record {
      rest = z ∷ w.rest;
      stays = λ y j d. elim (Memᴰ.cases_cons j) [ inl e ↦ Memᴰ.head e | inr k ↦ Memᴰ.tail (w.stays y k d) ];
      fewer = λ f t. elim (true_or_false (f z)) [ inl u ↦ rw u (ap suc (w.fewer f t)) | inr u ↦ rw u (w.fewer f t) ];
    }

-- a list with no repeats that lies inside another has no more that pass
pub count_inside : (f g : ℕ → Bool) (l : List ℕ) {m : List ℕ} → NoRepeats l → Inside l m
    → ((x : ℕ) → In x l → f x ≡ true → g x ≡ true) → count_if f l ≤ count_if g m
count_inside f g [] n inside passes = zero-le
count_inside f g (x ∷ l) n inside passes = elim (true_or_false (f x)) [
  | inl t ↦
      let w = without (inside x (Memᴰ.head refl)) in
      let rest : Inside l w.rest = λ y i. w.stays y (inside y (Memᴰ.tail i)) (λ e. n.0 (Memᴰ.cast (sym e) i)) in
      rw (t, w.fewer g (passes x (Memᴰ.head refl) t)) (suc-le-suc (count_inside f g l n.1 rest (λ y i. passes y (Memᴰ.tail i))))
  | inr t ↦ rw t (count_inside f g l n.1 (λ y i. inside y (Memᴰ.tail i)) (λ y i. passes y (Memᴰ.tail i)))
]

pub count_split : (f : ℕ → Bool) (l : List ℕ) → count_if f l + count_if (λ x. not (f x)) l ≡ length l
count_split f [] = refl
count_split f (x ∷ l) = let rest = count_split f l in elim (true_or_false (f x)) [ inl t ↦ rw t (omega arith) | inr t ↦ rw t (omega arith) ]

pub count_all : (f : ℕ → Bool) (l : List ℕ) → ((x : ℕ) → In x l → f x ≡ true) → count_if f l ≡ length l
count_all f [] every = refl
count_all f (x ∷ l) every = rw (every x (Memᴰ.head refl)) (ap suc (count_all f l (λ y i. every y (Memᴰ.tail i))))

pub count_none : (f : ℕ → Bool) (l : List ℕ) → ((x : ℕ) → In x l → f x ≡ false) → count_if f l ≡ 0
count_none f l no_one = omega (arith, count_split f l, count_all (λ x. not (f x)) l (λ x i. ap not (no_one x i)))

pub count_some : (f : ℕ → Bool) (l : List ℕ) → 0 < count_if f l → (x : ℕ) × In x l × (f x ≡ true)
count_some f [] h = absurd (omega arith)
count_some f (x ∷ l) h = elim (true_or_false (f x)) [
  | inl t ↦ (x, Memᴰ.head refl, t)
  | inr t ↦ let s = count_some f l (rw t at h) in (s.0, Memᴰ.tail s.1, s.2)
]

pub count_append : (f : ℕ → Bool) (l m : List ℕ) → count_if f (l ++ m) ≡ count_if f l + count_if f m
count_append f [] m = omega arith
count_append f (x ∷ l) m = let rest = count_append f l m in elim (true_or_false (f x)) [ inl t ↦ rw t (omega arith) | inr t ↦ rw t rest ]

-- where one fails the test, fewer than all pass it
-- one number more
pub count_further : (f : ℕ → Bool) (l : List ℕ) (j : ℕ) → j < length l → count_if f (take (j + 1) l) ≡ count_if f (take j l) + cond (f (get_or l j 0)) 1 0
count_further f l j h = rw (add-one j, take-suc l j 0, count_append)

pub count_short : (f : ℕ → Bool) (k : ℕ) {l : List ℕ} → In k l → f k ≡ false → count_if f l < length l
count_short f k {l} i t = omega (arith, count_split f l, (without i).fewer (λ x. not (f x)) (ap not t))

-- ---- no repeats, rising

pub no_repeats_left : (l m : List ℕ) → NoRepeats (l ++ m) → NoRepeats l
no_repeats_left [] m n = tt
no_repeats_left (x ∷ l) m n = (λ i. n.0 (Memᴰ.append_left m i), no_repeats_left l m n.1)

pub inside_length : (l : List ℕ) {m : List ℕ} → NoRepeats l → Inside l m → length l ≤ length m
inside_length l {m} n i = omega (
  arith,
  count_all (λ x. true) l (λ x j. refl),
  count_all (λ x. true) m (λ x j. refl),
  count_inside (λ x. true) (λ x. true) l n i (λ x j t. t),
)

pub rising_no_repeats : (l : List ℕ) → Rising l → NoRepeats l
rising_no_repeats [] up = tt
rising_no_repeats (x ∷ l) up = (λ i. absurd (omega (arith, up.0 x i)), rising_no_repeats l up.1)

-- two rising lists with the same members are one
pub rising_same : (l m : List ℕ) → Rising l → Rising m → Inside l m → Inside m l → l ≡ m
rising_same [] [] up vp i j = refl
rising_same [] (y ∷ m) up vp i j = absurd (Memᴰ.not-nil (j y (Memᴰ.head refl)))
rising_same (x ∷ l) [] up vp i j = absurd (Memᴰ.not-nil (i x (Memᴰ.head refl)))
rising_same (x ∷ l) (y ∷ m) up vp i j =
    let low : x ≤ y = elim (Memᴰ.cases_cons (j y (Memᴰ.head refl))) [ inl e ↦ omega arith | inr k ↦ omega (arith, up.0 y k) ] in
    let high : y ≤ x = elim (Memᴰ.cases_cons (i x (Memᴰ.head refl))) [ inl e ↦ omega arith | inr k ↦ omega (arith, vp.0 x k) ] in
    let heads : x ≡ y = omega arith in
    let there : Inside l m = λ z k. elim (Memᴰ.cases_cons (i z (Memᴰ.tail k))) [ inl e ↦ absurd (omega (arith, up.0 z k)) | inr n ↦ n ] in
    let back : Inside m l = λ z k. elim (Memᴰ.cases_cons (j z (Memᴰ.tail k))) [ inl e ↦ absurd (omega (arith, vp.0 z k)) | inr n ↦ n ] in
    let tails = rising_same l m up.1 vp.1 there back in
    cc

-- the place of k in a rising list is the number of those below k
pub rising_place : (k : ℕ) (l : List ℕ) → Rising l → In k l → get_or l (count_if (λ y. ltb y k) l) 0 ≡ k
rising_place k [] up i = elim i [ ]
rising_place k (x ∷ l) up (Memᴰ.head e) = rw (le-ltb x k (omega arith), count_none (λ y. ltb y k) l (λ y i. le-ltb y k (omega (arith, up.0 y i)))) (sym e)
rising_place k (x ∷ l) up (Memᴰ.tail i) = rw (lt-ltb x k (up.0 k i)) (rising_place k l up.1 i)

-- and each place is that of the number there
pub rising_at : (l : List ℕ) (i : ℕ) → Rising l → i < length l → count_if (λ y. ltb y (get_or l i 0)) l ≡ i
rising_at [] i up h = absurd (omega arith)
rising_at (x ∷ l) zero up h = rw (le-ltb x x (omega arith)) (count_none (λ y. ltb y x) l (λ y j. le-ltb y x (omega (arith, up.0 y j))))
rising_at (x ∷ l) (suc i) up h =
    rw (lt-ltb x (get_or l i 0) (up.0 (get_or l i 0) (get_or_in l i (omega arith)))) (ap suc (rising_at l i up.1 (omega arith)))

-- ---- searches

pub list_search : {P Q : ℕ → Type 0} (l : List ℕ) → ((x : ℕ) → In x l → P x ⊎ Q x) → ((x : ℕ) × In x l × P x) ⊎ ((x : ℕ) → In x l → Q x)
list_search [] test = inr (λ x i. absurd (Memᴰ.not-nil i))
list_search {P} {Q} (y ∷ l) test = elim (test y (Memᴰ.head refl)) [
  | inl p ↦ inl (y, Memᴰ.head refl, p)
  | inr q ↦ elim (list_search {P = P} {Q = Q} l (λ x i. test x (Memᴰ.tail i))) [
    | inl found ↦ inl (found.0, Memᴰ.tail found.1, found.2)
    | inr none ↦ inr (λ x i. elim (Memᴰ.cases_cons i) [ inl e ↦ subst Q (sym e) q | inr j ↦ none x j ])
  ]
]

-- the first number below n with P, or Q for all of them
pub first_search : {P Q : ℕ → Type 0} (n : ℕ) → ((i : ℕ) → P i ⊎ Q i) → ((s : ℕ) × (s < n) × P s × ((i : ℕ) → i < s → Q i)) ⊎ ((i : ℕ) → i < n → Q i)
first_search zero test = inr (λ i h. absurd (omega arith))
first_search {P} {Q} (suc n) test = elim (first_search {P = P} {Q = Q} n test) [
  | inl found ↦ inl (found.0, omega (arith, found.1), found.2, found.3)
  | inr none ↦ elim (test n) [
    | inl p ↦ inl (n, omega arith, p, none)
    | inr q ↦ inr (λ i h. elim (ℕ_discrete i n) [ yes e ↦ subst Q (sym e) q | no d ↦ none i (omega arith) ])
  ]
]

-- numbers to which Q takes those of l, as many as l has
pub record Images (Q : ℕ → ℕ → Type 0) (l : List ℕ) : Type 0 where
  pub images : List ℕ
  pub differ : NoRepeats images
  pub count : length images ≡ length l
  -- each is one's image
  pub source : (y : ℕ) → In y images → (x : ℕ) × In x l × Q x y
  -- and each has one among them
  pub image : (x : ℕ) → In x l → (y : ℕ) × In y images × Q x y

-- there are such if each of l has an image and no two have the same
pub images_differ : {Q : ℕ → ℕ → Type 0} (l : List ℕ) → NoRepeats l → ((x : ℕ) → In x l → (y : ℕ) × Q x y) → ((x z y : ℕ) → In x l → Q x y → Q z y → x ≡ z)
    → Images Q l
images_differ [] n to apart =
    record { images = []; differ = tt; count = refl; source = λ y i. absurd (Memᴰ.not-nil i); image = λ x i. absurd (Memᴰ.not-nil i) }
images_differ {Q} (x ∷ l) n to apart =
    let here = to x (Memᴰ.head refl) in
    let rest = images_differ {Q = Q} l n.1 (λ z i. to z (Memᴰ.tail i)) (λ z u y i. apart z u y (Memᴰ.tail i)) in
    record {
      images = here.0 ∷ rest.images;
      differ = (
        λ i. let z = rest.source here.0 i in n.0 (Memᴰ.cast (apart x z.0 here.0 (Memᴰ.head refl) here.1 z.2) z.1),
        rest.differ,
      );
      count = ap suc rest.count;
      source = λ y i. elim (Memᴰ.cases_cons i) [
        | inl e ↦ (x, Memᴰ.head refl, subst (Q x) (sym e) here.1)
        | inr j ↦ let z = rest.source y j in (z.0, Memᴰ.tail z.1, z.2)
      ];
      image = λ z i. elim (Memᴰ.cases_cons i) [
        | inl e ↦ (here.0, Memᴰ.head refl, subst (λ u. Q u here.0) (sym e) here.1)
        | inr j ↦ let y = rest.image z j in (y.0, Memᴰ.tail y.1, y.2)
      ];
    }

-- ---- keep

pub keep_in : {x : ℕ} (f : ℕ → Bool) (l : List ℕ) → In x (keep f l) ↔ (In x l × (f x ≡ true))
keep_in f [] = (λ i. absurd (Memᴰ.not-nil i), λ p. absurd (Memᴰ.not-nil p.0))
keep_in {x} f (y ∷ l) =
    let rest = keep_in {x = x} f l in
    elim (true_or_false (f y)) [
      | inl t ↦ rw t (
        λ i. elim (Memᴰ.cases_cons i) [ inl e ↦ (Memᴰ.head e, ap f e ∙ t) | inr j ↦ (Memᴰ.tail (rest.0 j).0, (rest.0 j).1) ],
        λ p. elim (Memᴰ.cases_cons p.0) [ inl e ↦ Memᴰ.head e | inr j ↦ Memᴰ.tail (rest.1 (j, p.1)) ],
      )
      | inr t ↦ rw t (
        λ i. (Memᴰ.tail (rest.0 i).0, (rest.0 i).1),
        λ p. elim (Memᴰ.cases_cons p.0) [ inl e ↦ absurd (true≢false (sym p.1 ∙ ap f e ∙ t)) | inr j ↦ rest.1 (j, p.1) ],
      )
    ]

pub keep_rising : (f : ℕ → Bool) (l : List ℕ) → Rising l → Rising (keep f l)
keep_rising f [] up = tt
keep_rising f (x ∷ l) up = elim (true_or_false (f x)) [
  | inl t ↦ rw t (λ y i. up.0 y ((keep_in f l).0 i).0, keep_rising f l up.1)
  | inr t ↦ rw t (keep_rising f l up.1)
]

pub keep_append : (f : ℕ → Bool) (l m : List ℕ) → keep f (l ++ m) ≡ keep f l ++ keep f m
keep_append f [] m = refl
keep_append f (x ∷ l) m = let rest = keep_append f l m in elim (true_or_false (f x)) [ inl t ↦ rw (t, rest) | inr t ↦ rw t rest ]

pub keep_length : (f : ℕ → Bool) (l : List ℕ) → length (keep f l) ≤ length l
keep_length f [] = zero-le
keep_length f (x ∷ l) = let rest = keep_length f l in elim (true_or_false (f x)) [ inl t ↦ rw t (omega arith) | inr t ↦ rw t (omega arith) ]

-- ---- insert

pub insert_in : {x : ℕ} (y : ℕ) (l : List ℕ) → In x (insert y l) ↔ ((x ≡ y) ⊎ In x l)
insert_in y [] = (Memᴰ.cases_cons, λ c. elim c [ inl e ↦ Memᴰ.head e | inr i ↦ Memᴰ.tail i ])
insert_in {x} y (z ∷ l) =
    let rest = insert_in {x = x} y l in
    elim (true_or_false (ltb y z)) [
      | inl t ↦ rw t (Memᴰ.cases_cons, λ c. elim c [ inl e ↦ Memᴰ.head e | inr i ↦ Memᴰ.tail i ])
      | inr t ↦ elim (true_or_false (eqb y z)) [
        | inl u ↦ rw (t, u) (inr, λ c. elim c [ inl e ↦ Memᴰ.head (e ∙ eqb-true y z u) | inr i ↦ i ])
        | inr u ↦ rw (t, u) (
          λ i. elim (Memᴰ.cases_cons i) [
            | inl e ↦ inr (Memᴰ.head e)
            | inr j ↦ elim (rest.0 j) [ inl e ↦ inl e | inr k ↦ inr (Memᴰ.tail k) ]
          ],
          λ c. elim c [
            | inl e ↦ Memᴰ.tail (rest.1 (inl e))
            | inr i ↦ elim (Memᴰ.cases_cons i) [ inl e ↦ Memᴰ.head e | inr j ↦ Memᴰ.tail (rest.1 (inr j)) ]
          ],
        )
      ]
    ]

pub insert_rising : (y : ℕ) (l : List ℕ) → Rising l → Rising (insert y l)
insert_rising y [] up = (λ x i. absurd (Memᴰ.not-nil i), tt)
insert_rising y (z ∷ l) up = elim (true_or_false (ltb y z)) [
  | inl t ↦ rw t (λ x i. elim (Memᴰ.cases_cons i) [ inl e ↦ omega (arith, ltb-true y z t) | inr j ↦ omega (arith, ltb-true y z t, up.0 x j) ], up)
  | inr t ↦ elim (true_or_false (eqb y z)) [
    | inl u ↦ rw (t, u) up
    | inr u ↦
        let apart : y ≢ z = eqb-false y z u in
        rw (t, u) (
          λ x i. elim ((insert_in y l).0 i) [ inl e ↦ omega (arith, ltb-false y z t) | inr j ↦ up.0 x j ],
          insert_rising y l up.1,
        )
  ]
]

-- what is in the list already changes nothing
pub insert_known : (x : ℕ) (l : List ℕ) → Rising l → In x l → insert x l ≡ l
insert_known x l up i =
    rising_same (insert x l) l (insert_rising x l up) up
    (λ y j. elim ((insert_in x l).0 j) [ inl e ↦ Memᴰ.cast e i | inr k ↦ k ])
    (λ y j. (insert_in x l).1 (inr j))

pub insert_all_in : {x : ℕ} (m l : List ℕ) → In x (insert_all m l) ↔ (In x m ⊎ In x l)
insert_all_in [] l = (inr, λ c. elim c [ inl i ↦ absurd (Memᴰ.not-nil i) | inr i ↦ i ])
insert_all_in {x} (y ∷ m) l =
    let here = insert_in {x = x} y (insert_all m l) in
    let rest = insert_all_in {x = x} m l in (
      λ i. elim (here.0 i) [
        | inl e ↦ inl (Memᴰ.head e)
        | inr j ↦ elim (rest.0 j) [ inl k ↦ inl (Memᴰ.tail k) | inr k ↦ inr k ]
      ],
      λ c. elim c [
        | inl i ↦ elim (Memᴰ.cases_cons i) [ inl e ↦ here.1 (inl e) | inr j ↦ here.1 (inr (rest.1 (inl j))) ]
        | inr i ↦ here.1 (inr (rest.1 (inr i)))
      ],
    )

pub insert_all_rising : (m l : List ℕ) → Rising l → Rising (insert_all m l)
insert_all_rising [] l up = up
insert_all_rising (x ∷ m) l up = insert_rising x (insert_all m l) (insert_all_rising m l up)

pub insert_all_known : (m l : List ℕ) → Rising l → Inside m l → insert_all m l ≡ l
insert_all_known m l up inside =
    rising_same (insert_all m l) l (insert_all_rising m l up) up
    (λ y i. elim ((insert_all_in m l).0 i) [ inl j ↦ inside y j | inr j ↦ j ])
    (λ y i. (insert_all_in m l).1 (inr i))

-- ---- the test `rising 0` of the formats, in the words above

rising_from_gives : (a : ℕ) (l : List ℕ) → rising a l ≡ true → Rising l × ((x : ℕ) → In x l → a < x)
rising_from_gives a [] h = (tt, λ x i. absurd (Memᴰ.not-nil i))
rising_from_gives a (y ∷ l) h =
    let both = (and-eq-true_iff (ltb a y) (rising y l)).0 h in
    let rest = rising_from_gives y l both.1 in (
      (rest.1, rest.0),
      λ x i. elim (Memᴰ.cases_cons i) [ inl e ↦ omega (arith, ltb-true a y both.0) | inr j ↦ omega (arith, ltb-true a y both.0, rest.1 x j) ],
    )

pub rising_gives : (l : List ℕ) → rising 0 l ≡ true → Rising l × ((x : ℕ) → In x l → 0 < x)
rising_gives l h = rising_from_gives 0 l h

rising_from_test : (a : ℕ) (l : List ℕ) → Rising l → ((x : ℕ) → In x l → a < x) → rising a l ≡ true
rising_from_test a [] up above = refl
rising_from_test a (y ∷ l) up above = rw (lt-ltb a y (above y (Memᴰ.head refl))) (rising_from_test y l up.1 up.0)

pub rising_test : (l : List ℕ) → Rising l → ((x : ℕ) → In x l → 0 < x) → rising 0 l ≡ true
rising_test l up positive = rising_from_test 0 l up positive
