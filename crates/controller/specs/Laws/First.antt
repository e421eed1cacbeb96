-- Laws of when each number was first heard: a record says the same of a number once it is heard, and what is sound stays sound.
use Rattle.std.specs.Prelude.{ℕ, ◌≤◌, ◌<◌, Bool, true, cond, List, [], ◌∷◌, map, ◌≢◌, ◌≡◌, refl, length, take}
use Rattle.std.proofs.Common.{true≢false, sym, ◌∙◌, arith, eq-eqb, ne_eqb, le-leb, lt-ltb}
use Rattle.std.proofs.Math.Bool.{and-eq-true_iff}
use mathlib.Core.List.Memᴰ
use Rattle.std.proofs.Math.Logic.{inl, inr}
use Rattle.std.proofs.Math.Decide.{ℕ_discrete}
use Rattle.std.proofs.Math.ListN.{length-map}
use Rattle.wire.specs.Laws.Numbers.{listed_stored}
use Rattle.wire.specs.Limits.{last_round}
use Rattle.wire.specs.Numbers.{listed}
use Rattle.wire.specs.Tray.{Entry, entries}
use Rattle.controller.specs.First.{first_of, first_in, firsts_after, rounds_after}
use Rattle.controller.specs.Laws.Lists.{in_mem, out_mem, in_or_not}
use Rattle.controller.specs.Laws.Received.{heard_in_lem}
use Rattle.controller.specs.Laws.Refusals.{Fits}
use Rattle.controller.specs.Laws.Rules.{next_sound, step_heard, step_own}
use Rattle.controller.specs.Laws.State.{Sound, same_test, sound_gives, sound_beside_lem, beside_gives, sound_both, start_sound}
use Rattle.controller.specs.Lists.{In, mem}
use Rattle.controller.specs.Received.{senders, receive}
use Rattle.controller.specs.Rules.{next}
use Rattle.controller.specs.State.{View, view, stored_state, start_view, start_rounds, recorded, first_rounds, first_fits, alongside, sound_beside, sound}
use Rattle.controller.specs.declared.state.State.{State}

-- ---- a list beside another

module _ (P : ℕ → ℕ → Bool) where
  pub alongside_length : (l w : List ℕ) → alongside P l w ≡ true → length w ≡ length l
  alongside_length [] [] h = refl
  alongside_length [] (t ∷ w) h = absurd (true≢false (sym h))
  alongside_length (x ∷ l) [] h = absurd (true≢false (sym h))
  alongside_length (x ∷ l) (t ∷ w) h = omega (arith, alongside_length l w ((and-eq-true_iff (P x t) (alongside P l w)).0 h).1)

  -- what stands beside a number
  pub alongside_first : (l w : List ℕ) → alongside P l w ≡ true → (x : ℕ) → In x l → P x (first_of x l w) ≡ true
  alongside_first [] w h x i = absurd (Memᴰ.not-nil i)
  alongside_first (y ∷ l) [] h x i = absurd (true≢false (sym h))
  alongside_first (y ∷ l) (t ∷ w) h x i =
      let both = (and-eq-true_iff (P y t) (alongside P l w)).0 h in
      elim (ℕ_discrete x y) [
        | yes e ↦ rw (eq-eqb x y e, e) both.0
        | no d ↦ elim (Memᴰ.cases_cons i) [
          | inl e ↦ absurd (d e)
          | inr j ↦ rw (ne_eqb x y d) (alongside_first l w both.1 x j)
        ]
      ]

  pub alongside_map : (f : ℕ → ℕ) (l : List ℕ) → ((x : ℕ) → In x l → P x (f x) ≡ true) → alongside P l (map f l) ≡ true
  alongside_map f [] h = refl
  alongside_map f (x ∷ l) h = (and-eq-true_iff _ _).1 (h x (Memᴰ.head refl), alongside_map f l (λ y i. h y (Memᴰ.tail i)))

-- the round that stands beside a number, where f gives each its round
pub first_of_map : (f : ℕ → ℕ) (l : List ℕ) (x : ℕ) → In x l → first_of x l (map f l) ≡ f x
first_of_map f [] x i = absurd (Memᴰ.not-nil i)
first_of_map f (y ∷ l) x i = elim (ℕ_discrete x y) [
  | yes e ↦ rw (eq-eqb x y e, e)
  | no d ↦ elim (Memᴰ.cases_cons i) [
    | inl e ↦ absurd (d e)
    | inr j ↦ rw (ne_eqb x y d) (first_of_map f l x j)
  ]
]

pub first_of_none : (l w : List ℕ) (x : ℕ) → (¬ In x l) → first_of x l w ≡ 0
first_of_none [] w x out = refl
first_of_none (y ∷ l) [] x out = refl
first_of_none (y ∷ l) (t ∷ w) x out = rw (ne_eqb x y (λ e. out (Memᴰ.head e))) (first_of_none l w x (λ i. out (Memᴰ.tail i)))

-- ---- the record in its places

-- where the record has as many rounds as there are numbers, its places hold just it
pub recorded_used : (l w : List ℕ) → length w ≡ length l → take (length l) (recorded w) ≡ w
recorded_used l w e = rw (sym e) (listed_stored w)

pub beside_test : (own : ℕ) (l w : List ℕ) → alongside (first_fits own) l w ≡ true → sound_beside own l (recorded w) ≡ true
unfolding sound_beside
beside_test own l w h = rw (recorded_used l w (alongside_length (first_fits own) l w h), h) (same_test (recorded w))

-- the round that a stored state has for a number
pub first_in_stored : (v : View) (w : List ℕ) (x : ℕ) → length w ≡ length v.rotor.heard
    → first_in (stored_state v (recorded w)) x ≡ first_of x v.rotor.heard w
first_in_stored v w x e = rw (listed_stored v.rotor.heard, recorded_used v.rotor.heard w e)

-- ---- one tray

module _ (v : View) (w : List ℕ) (es : List Entry) where
  -- the round that a tray gives to a number
  abbrev given : ℕ → ℕ
  given x = cond (mem x v.rotor.heard) (first_of x v.rotor.heard w) v.round

  pub firsts_length : length (firsts_after v w es) ≡ length (receive v es).heard
  unfolding firsts_after
  firsts_length = length-map (receive v es).heard given

  first_after : (x : ℕ) → In x (receive v es).heard → first_of x (receive v es).heard (firsts_after v w es) ≡ given x
  unfolding firsts_after
  first_after x i = first_of_map given (receive v es).heard x i

  -- it never changes for a number once heard
  pub first_kept : (x : ℕ) → In x v.rotor.heard → first_of x (receive v es).heard (firsts_after v w es) ≡ first_of x v.rotor.heard w
  first_kept x i = first_after x ((heard_in_lem v es).1 (inr i)) ∙ rw (in_mem i)

  -- a new number has the tray's round
  pub first_new : (x : ℕ) → In x (senders es) → (¬ In x v.rotor.heard) → first_of x (receive v es).heard (firsts_after v w es) ≡ v.round
  first_new x i out = first_after x ((heard_in_lem v es).1 (inl i)) ∙ rw (out_mem v.rotor.heard out)

  -- rounds in range stay so
  pub firsts_fit : Sound v → v.round < last_round → alongside (first_fits v.own) v.rotor.heard w ≡ true
      → alongside (first_fits v.own) (receive v es).heard (firsts_after v w es) ≡ true
  unfolding firsts_after
  firsts_fit s early h = alongside_map (first_fits v.own) given (receive v es).heard (λ x i. elim (in_or_not x v.rotor.heard) [
    | inl j ↦ rw (in_mem j) (alongside_first (first_fits v.own) v.rotor.heard w h x j)
    | inr out ↦
        let other : x ≢ v.own = λ e. out (rw (sym e) at s.hears_itself) in
        rw (out_mem v.rotor.heard out, ne_eqb x v.own other, le-leb 1 v.round s.early, lt-ltb v.round last_round early)
  ])

-- ---- soundness

-- a sound state that takes a tray which fits makes a sound one
pub next_stays_sound : (s : State) (b : List ℕ) → Fits s b → sound (stored_state (next (view s) (entries b)) (rounds_after s (entries b))) ≡ true
next_stays_sound s b f =
    let v = view s in
    let es = entries b in
    let good = sound_gives s f.state in
    let heard = step_heard v (receive v es) in
    let used = (beside_gives s.own (listed s.heard) s.since (sound_beside_lem s f.state)).0 in
    let rounds = beside_test s.own (receive v es).heard (firsts_after v (first_rounds s) es) (firsts_fit v (first_rounds s) es good f.early used) in
    sound_both (next v es) (rounds_after s es) (next_sound v es good f.active f.early f.nonzero f.heard f.candidates f.echoes)
    (rw (step_own v (receive v es), heard) rounds)

pub start_stays_sound : (number bit : ℕ) → number ≢ 0 → bit ≤ 1 → sound (stored_state (start_view number bit) start_rounds) ≡ true
start_stays_sound number bit n b =
    sound_both (start_view number bit) start_rounds (start_sound number bit n b)
    (beside_test number (number ∷ []) (0 ∷ []) (rw (eq-eqb number number refl)))
