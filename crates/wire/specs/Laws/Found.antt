-- Laws of what is found under a number: the answer tells what there is, and the order of entries does not matter.
use Rattle.std.specs.Prelude.{ℕ, zero, suc, ◌+◌, ◌<◌, Bool, true, false, cond, ◌&&◌, ◌⊎◌, ◌≢◌, ◌≡◌, refl, eqb, length, get_or, take, drop, List, [], ◌∷◌, map}
use Rattle.std.proofs.Math.Bool.{and-eq-true_iff, and_assoc, and_comm}
use Rattle.std.proofs.Common.{true≢false, inl, inr, sym, subst, ap, ap₂, ◌∙◌, eqb-true, eq-eqb, ne_eqb, arith}
use mathlib.Core.List.Memᴰ
use mathlib.Core.List.{Memᴰ, Permᴰ}
use Rattle.std.proofs.Math.Decide.{ℕ_discrete}
use Rattle.wire.specs.Tray.{Entry, entry_count, offset_of, length_of, sender, part, entries_from, entries}
use Rattle.wire.specs.Found.{frames_under, same_bytes, all_same, Under, nothing, one, several, among_frames, under, first_from, answer, found, meaning}

-- ---- the same bytes

pub same_is : (a b : List ℕ) → same_bytes a b ≡ true → a ≡ b
same_is [] [] e = refl
same_is [] (y ∷ b) e = absurd (true≢false (sym e))
same_is (x ∷ a) [] e = absurd (true≢false (sym e))
same_is (x ∷ a) (y ∷ b) e =
    let t = (and-eq-true_iff (eqb x y) (same_bytes a b)).0 e in
    rw (eqb-true x y t.0, same_is a b t.1)

pub same_self : (a : List ℕ) → same_bytes a a ≡ true
same_self [] = refl
same_self (x ∷ a) = rw (eq-eqb x x refl, same_self a)

-- what differs is told apart
pub same_apart : (a b : List ℕ) → a ≢ b → same_bytes a b ≡ false
same_apart a b apart = pick (same_bytes a b) refl
  where
    pick : (t : Bool) → same_bytes a b ≡ t → t ≡ false
    pick true e = absurd (apart (same_is a b e))
    pick false e = refl

-- other lengths are other bytes
pub same_as_long : (a b : List ℕ) → length a ≢ length b → same_bytes a b ≡ false
same_as_long a b apart = same_apart a b (λ e. apart (ap length e))

-- one byte more
pub same_more : (a b : List ℕ) (i : ℕ) → i < length a → i < length b
    → same_bytes (take (i + 1) a) (take (i + 1) b) ≡ (same_bytes (take i a) (take i b) && eqb (get_or a i 0) (get_or b i 0))
same_more [] b i h k = absurd (omega arith)
same_more (x ∷ a) [] i h k = absurd (omega arith)
same_more (x ∷ a) (y ∷ b) zero h k = and_comm (eqb x y) true
same_more (x ∷ a) (y ∷ b) (suc i) h k =
    let e : suc i + 1 ≡ suc (i + 1) = omega arith in
    rw (e, same_more a b i (omega arith) (omega arith)) (sym (and_assoc (eqb x y) (same_bytes (take i a) (take i b)) (eqb (get_or a i 0) (get_or b i 0))))

-- the first k bytes, and those behind them
pub same_split : (k : ℕ) (a b : List ℕ) → same_bytes a b ≡ (same_bytes (take k a) (take k b) && same_bytes (drop k a) (drop k b))
same_split zero a b = refl
same_split (suc k) [] [] = refl
same_split (suc k) [] (y ∷ b) = refl
same_split (suc k) (x ∷ a) [] = refl
same_split (suc k) (x ∷ a) (y ∷ b) =
    rw (same_split k a b) (sym (and_assoc (eqb x y) (same_bytes (take k a) (take k b)) (same_bytes (drop k a) (drop k b))))

-- two lists of bytes are the same, or not, either way round
record Apart (a b : List ℕ) : Type 0 where
  there : same_bytes a b ≡ false
  back : same_bytes b a ≡ false

same_or_apart : (a b : List ℕ) → (a ≡ b) ⊎ Apart a b
same_or_apart a b = pick (same_bytes a b) refl (same_bytes b a) refl
  where
    pick : (t : Bool) → same_bytes a b ≡ t → (u : Bool) → same_bytes b a ≡ u → (a ≡ b) ⊎ Apart a b
    pick true e u f = inl (same_is a b e)
    pick false e true f = inl (sym (same_is b a f))
    pick false e false f = inr (record { there = e; back = f })

-- ---- one entry more

-- what there is with one frame more in front
abbrev pub beside : List ℕ → Under → Under
beside b nothing = one b
beside b (one c) = cond (same_bytes b c) (one b) several
beside b several = several

pub among_step : (b : List ℕ) (bs : List (List ℕ)) → among_frames (b ∷ bs) ≡ beside b (among_frames bs)
among_step b [] = refl
among_step b (c ∷ cs) = elim (same_or_apart b c) [
  | inl e ↦ subst (λ (x : List ℕ). among_frames (x ∷ c ∷ cs) ≡ beside x (among_frames (c ∷ cs))) (sym e) (rw (same_self c) (same (all_same c cs)))
  | inr d ↦ rw d.there (apart (all_same c cs) d.there)
]
  where
    same : (t : Bool) → cond t (one c) several ≡ beside c (cond t (one c) several)
    same true = rw (same_self c)
    same false = refl

    apart : (t : Bool) → same_bytes b c ≡ false → several ≡ beside b (cond t (one c) several)
    apart true e = rw e
    apart false e = refl

-- ---- the answer

-- the first of the frames under a number is that of the first entry under it
module _ (s : List ℕ) (x : ℕ) where
  pub record First (n i : ℕ) (b : List ℕ) : Type 0 where
    pub inside : first_from s x n i < i + n
    pub bytes : part s (offset_of s (first_from s x n i)) (length_of s (first_from s x n i)) ≡ b

  first_here : (n i : ℕ) (b : List ℕ) (bs : List (List ℕ)) → eqb (sender s i) x ≡ true
      → frames_under x (entries_from s (suc n) i) ≡ b ∷ bs → First (suc n) i b
  first_here n i b bs t e = record { inside = rw t (omega arith); bytes = rw t (let f = rw t at e in cc) }

  first_behind : (n i : ℕ) (b : List ℕ) → eqb (sender s i) x ≡ false → First n (i + 1) b → First (suc n) i b
  first_behind n i b t f = record { inside = rw t (omega (arith, f.inside)); bytes = rw t f.bytes }

  pub first_frame : (n i : ℕ) (b : List ℕ) (bs : List (List ℕ)) → frames_under x (entries_from s n i) ≡ b ∷ bs → First n i b
  first_frame zero i b bs e = let z : ◌≡◌ {A = ℕ} 0 1 = cc in absurd (omega arith)
  first_frame (suc n) i b bs e = elim (ℕ_discrete (sender s i) x) [
    | yes q ↦ first_here n i b bs (eq-eqb (sender s i) x q) e
    | no d ↦ first_behind n i b (ne_eqb (sender s i) x d) (first_frame n (i + 1) b bs (rw (ne_eqb (sender s i) x d) at e))
  ]

answer_is : (s : List ℕ) (k : ℕ) (fs : List (List ℕ))
    → ((b : List ℕ) (bs : List (List ℕ)) → fs ≡ b ∷ bs → part s (offset_of s k) (length_of s k) ≡ b)
    → meaning s (answer s k (among_frames fs)) ≡ among_frames fs
answer_is s k [] first = refl
answer_is s k (b ∷ bs) first = pick (all_same b bs)
  where
    pick : (t : Bool) → meaning s (answer s k (cond t (one b) several)) ≡ cond t (one b) several
    pick true = ap one (first b bs refl)
    pick false = refl

-- one frame is the first of those that there are
pub one_first : (fs : List (List ℕ)) (c : List ℕ) → among_frames fs ≡ one c → (bs : List (List ℕ)) × (fs ≡ c ∷ bs)
one_first [] c e = let z : ◌≡◌ {A = ℕ} 0 1 = cc in absurd (omega arith)
one_first (b ∷ bs) c e = (bs, pick (all_same b bs) e)
  where
    pick : (t : Bool) → cond t (one b) several ≡ one c → b ∷ bs ≡ c ∷ bs
    pick true e = cc
    pick false e = let z : ◌≡◌ {A = ℕ} 0 1 = cc in absurd (omega arith)

-- an answer says what there is
pub found_meaning : (s : List ℕ) (x : ℕ) → meaning s (found s x) ≡ under x (entries s)
unfolding entries
found_meaning s x = answer_is s (first_from s x (entry_count s) 0) (frames_under x (entries s)) (λ b bs e. (first_frame s x (entry_count s) 0 b bs e).bytes)

-- ---- which entries there are

-- one entry more in front, under the number or under another
under_in : (x : ℕ) (e : Entry) (es : List Entry) → e.sender ≡ x → under x (e ∷ es) ≡ beside e.bytes (under x es)
under_in x e es q = rw (eq-eqb e.sender x q) (among_step e.bytes (frames_under x es))

under_out : (x : ℕ) (e : Entry) (es : List Entry) → e.sender ≢ x → under x (e ∷ es) ≡ under x es
under_out x e es d = rw (ne_eqb e.sender x d)

-- none is under the number
pub under_nothing : (x : ℕ) (es : List Entry) → (¬ Memᴰ x (map (λ (e : Entry). e.sender) es)) → under x es ≡ nothing
under_nothing x [] out = refl
under_nothing x (e ∷ es) out = under_out x e es (λ q. out (Memᴰ.head (sym q))) ∙ under_nothing x es (λ i. out (Memᴰ.tail i))

-- with a frame more there is one or there are several
beside_either : (b : List ℕ) (u : Under) → (beside b u ≡ one b) ⊎ (beside b u ≡ several)
beside_either b nothing = inl refl
beside_either b (one c) = pick (same_bytes b c)
  where
    pick : (t : Bool) → (cond t (one b) several ≡ one b) ⊎ (cond t (one b) several ≡ several)
    pick true = inl refl
    pick false = inr refl
beside_either b several = inr refl

beside_one : (b c : List ℕ) → (beside b (one c) ≡ one c) ⊎ (beside b (one c) ≡ several)
beside_one b c = elim (same_or_apart b c) [ inl e ↦ inl (rw (e, same_self c)) | inr d ↦ inr (rw d.there) ]

-- this one is under the number, so what there is is its frame, or several
pub under_member : (x : ℕ) (e : Entry) (es : List Entry) → Memᴰ e es → e.sender ≡ x → (under x es ≡ one e.bytes) ⊎ (under x es ≡ several)
under_member x e [] i q = absurd (Memᴰ.not-nil i)
under_member x e (f ∷ es) i q = elim (Memᴰ.cases_cons i) [
  | inl s ↦ rw (under_in x f es (ap (λ (d : Entry). d.sender) (sym s) ∙ q), s) (beside_either f.bytes (under x es))
  | inr j ↦ elim (ℕ_discrete f.sender x) [
    | yes p ↦ rw (under_in x f es p) (elim (under_member x e es j q) [ inl o ↦ rw o (beside_one f.bytes e.bytes) | inr o ↦ inr (rw o) ])
    | no d ↦ rw (under_out x f es d) (under_member x e es j q)
  ]
]

-- all that are under the number have the same bytes, so there is at most one frame
at_most_one : (x : ℕ) (b : List ℕ) (es : List Entry) → ((e : Entry) → Memᴰ e es → e.sender ≡ x → e.bytes ≡ b)
    → (under x es ≡ nothing) ⊎ (under x es ≡ one b)
at_most_one x b [] all = inl refl
at_most_one x b (e ∷ es) all =
    let behind = at_most_one x b es (λ f j. all f (Memᴰ.tail j)) in
    elim (ℕ_discrete e.sender x) [
      | yes q ↦ inr (under_in x e es q ∙ rw (all e (Memᴰ.head refl) q) (elim behind [ inl n ↦ rw n | inr o ↦ rw (o, same_self b) ]))
      | no d ↦ rw (under_out x e es d) behind
    ]

-- and where this one is, there is one
pub under_one : (x : ℕ) (e : Entry) (es : List Entry) → Memᴰ e es → e.sender ≡ x
    → ((f : Entry) → Memᴰ f es → f.sender ≡ x → f.bytes ≡ e.bytes) → under x es ≡ one e.bytes
under_one x e es i q all = elim (under_member x e es i q) [
  | inl o ↦ o
  | inr m ↦ elim (at_most_one x e.bytes es all) [
    | inl n ↦ let mixed : nothing ≡ several = sym n ∙ m in let z : ◌≡◌ {A = ℕ} 0 1 = cc in absurd (omega arith)
    | inr o ↦ o
  ]
]

-- ---- the order of entries

beside_swap : (a b : List ℕ) (u : Under) → beside a (beside b u) ≡ beside b (beside a u)
beside_swap a b nothing = elim (same_or_apart a b) [ inl e ↦ rw e | inr d ↦ rw (d.there, d.back) ]
beside_swap a b (one c) = elim (same_or_apart a c) [
  | inl e ↦ elim (same_or_apart b c) [ inl f ↦ rw (e, f) | inr f ↦ rw (e, f.there, same_self c, f.there) ]
  | inr e ↦ elim (same_or_apart b c) [ inl f ↦ rw (f, e.there, same_self c, e.there) | inr f ↦ rw (e.there, f.there) ]
]
beside_swap a b several = refl

under_cons : (x : ℕ) (e : Entry) (es fs : List Entry) → under x es ≡ under x fs → under x (e ∷ es) ≡ under x (e ∷ fs)
under_cons x e es fs same = elim (ℕ_discrete e.sender x) [
  | yes q ↦ under_in x e es q ∙ ap (beside e.bytes) same ∙ sym (under_in x e fs q)
  | no d ↦ under_out x e es d ∙ same ∙ sym (under_out x e fs d)
]

under_swap : (x : ℕ) (e f : Entry) (es : List Entry) → under x (e ∷ f ∷ es) ≡ under x (f ∷ e ∷ es)
under_swap x e f es = elim (ℕ_discrete e.sender x) [
  | yes q ↦ elim (ℕ_discrete f.sender x) [
    | yes p ↦
        under_in x e (f ∷ es) q ∙ ap (beside e.bytes) (under_in x f es p) ∙ beside_swap e.bytes f.bytes (under x es)
        ∙ sym (under_in x f (e ∷ es) p ∙ ap (beside f.bytes) (under_in x e es q))
    | no d ↦ under_cons x e (f ∷ es) es (under_out x f es d) ∙ sym (under_out x f (e ∷ es) d)
  ]
  | no d ↦ under_out x e (f ∷ es) d ∙ under_cons x f es (e ∷ es) (sym (under_out x e es d))
]

-- a permutation of the entries leaves what there is under each number
pub under_order : (x : ℕ) {es fs : List Entry} → Permᴰ es fs → under x es ≡ under x fs
under_order x Permᴰ.nil = refl
under_order x (Permᴰ.cons {a = a} {l₁ = l₁} {l₂ = l₂} e p) = under_cons x a l₁ l₂ (under_order x p) ∙ ap (λ (y : Entry). under x (y ∷ l₂)) e
under_order x (Permᴰ.swap {a = a} {b = b} {l = l} e f) = under_swap x a b l ∙ ap₂ (λ (y z : Entry). under x (y ∷ z ∷ l)) f e
under_order x (Permᴰ.trans p q) = under_order x p ∙ under_order x q
