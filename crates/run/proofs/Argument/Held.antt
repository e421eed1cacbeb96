-- What a proper controller has in each round, looked up in its list of calls.
--     lookup f g d l         g of the first of l that passes the test f, d where none does
--     AtRound t s            s is of round t, or of an earlier one and decided
--     state_in t c           c's state of round t, or the one with which it decided before
--     received_of t c        what c had received with the tray of round t that it worked
use Rattle.std.specs.Prelude.{ℕ, ◌≤◌, Bool, true, false, not, cond, ◌&&◌, ◌||◌, List, [], ◌∷◌, ◌⊎◌, ◌≡◌, refl, eqb, leb}
use Rattle.std.proofs.Common.{true≢false, inl, inr, ◌∙◌, subst, arith, eqb-true, eq-eqb, leb-true, le-leb}
use Rattle.std.proofs.Math.Bool.{and-eq-true_iff, or-true}
use mathlib.Core.List.Memᴰ
use Rattle.std.specs.Prelude.{None}
use Rattle.std.proofs.Math.Path.{sym, ap}
use Rattle.std.proofs.Math.Decide.{dec_le}
use Rattle.std.proofs.lemmas.Bool.{not-true}
use Rattle.controller.specs.Lists.{NoRepeats}
use Rattle.controller.specs.State.{View, view, undecided, start_view}
use Rattle.controller.specs.Received.{Received}
use Rattle.controller.specs.Calls.{sent_bytes}
use Rattle.controller.specs.Laws.Lists.{true_or_false}
use Rattle.controller.specs.declared.state.State.{State}
use Rattle.run.specs.Run.{Member, TrayCall, Accepted, Controller, states, Sent, numbers}
use Rattle.run.proofs.Argument.Calls.{received_with, state_one, state_last, call_one, sent_state}

-- ---- looking up

abbrev pub lookup : {A B : Type 0} → (A → Bool) → (A → B) → B → List A → B
lookup f g d [] = d
lookup f g d (x ∷ l) = cond (f x) (g x) (lookup f g d l)

-- one that passes is found if all that pass look alike
pub lookup_finds : {A B : Type 0} (f : A → Bool) (g : A → B) (d : B) (l : List A) {x : A} → Member x l → f x ≡ true
    → ((y : A) → Member y l → f y ≡ true → g y ≡ g x) → lookup f g d l ≡ g x
lookup_finds f g d [] i t alike = absurd (Memᴰ.not-nil i)
lookup_finds f g d (y ∷ l) {x} i t alike = elim (true_or_false (f y)) [
  | inl u ↦ rw u (alike y (Memᴰ.head refl) u)
  | inr u ↦
      let j : Member x l = elim (Memᴰ.cases_cons i) [ inl e ↦ absurd (true≢false (sym t ∙ ap f e ∙ u)) | inr j ↦ j ] in
      rw u (lookup_finds f g d l j t (λ z k. alike z (Memᴰ.tail k)))
]

abbrev pub numbered : ℕ → Controller → Bool
numbered p c = eqb c.number p

-- the state of round t, or a decided one of an earlier round
abbrev held_in : ℕ → State → Bool
held_in t s = eqb s.round t || (leb s.round t && not (undecided (view s)))

abbrev accepts_round : ℕ → TrayCall → Bool
accepts_round t k = eqb k.answer.refusal 0 && eqb k.state.round t

-- what stands for the state of nobody, or of a round that was not made
abbrev pub nobody : View
nobody = start_view 0 0

unfoldable pub state_in : ℕ → Controller → View
state_in t c = lookup (held_in t) view nobody (states c)

abbrev pub nothing : Received
nothing = record { heard = []; from = λ x. None }

unfoldable pub received_of : ℕ → Controller → Received
received_of t c = lookup (accepts_round t) received_with nothing c.trays

-- ---- what is looked up in a controller's list

-- s is what a controller has in round t
abbrev pub AtRound : ℕ → State → Type 0
AtRound t s = (s.round ≡ t) ⊎ ((s.round ≤ t) × (undecided (view s) ≡ false))

held_test : (t : ℕ) (s : State) → AtRound t s → held_in t s ≡ true
held_test t s (inl e) = rw (eq-eqb _ _ e)
held_test t s (inr h) = rw (le-leb _ _ h.0, h.1) (or-true (eqb s.round t))

held_gives : (t : ℕ) (s : State) → held_in t s ≡ true → AtRound t s
held_gives t s h = elim (true_or_false (eqb s.round t)) [
  | inl e ↦ inl (eqb-true _ _ e)
  | inr e ↦
      let both = (and-eq-true_iff (leb s.round t) (not (undecided (view s)))).0 (rw e at h) in
      inr (leb-true _ _ both.0, not-true _ both.1)
]

pub at_most : {t : ℕ} (s : State) → AtRound t s → s.round ≤ t
at_most s (inl e) = omega arith
at_most s (inr h) = h.0

-- who has not decided has a state of the round itself
pub of_round : {t : ℕ} (s : State) → AtRound t s → undecided (view s) ≡ true → s.round ≡ t
of_round s (inl e) u = e
of_round s (inr h) u = absurd (true≢false (sym u ∙ h.1))

module _ (c : Controller) where
  -- a list has one such state for each round
  held_one : {t : ℕ} (u v : State) → Member u (states c) → Member v (states c) → AtRound t u → AtRound t v → u ≡ v
  held_one u v i j (inl e) (inl f) = state_one c u v i j (e ∙ sym f)
  held_one u v i j (inl e) (inr f) = state_last c v u j i f.1 (omega (arith, f.0))
  held_one u v i j (inr e) (inl f) = sym (state_last c u v i j e.1 (omega (arith, e.0)))
  held_one u v i j (inr e) (inr f) = elim (dec_le u.round v.round) [
    | yes l ↦ sym (state_last c u v i j e.1 l)
    | no l ↦ state_last c v u j i f.1 (omega arith)
  ]

  pub state_in_lem : {t : ℕ} (s : State) → Member s (states c) → AtRound t s → state_in t c ≡ view s
  unfolding state_in
  state_in_lem {t} s i at = lookup_finds (held_in t) view nobody (states c) i (held_test t s at) (λ u j h. ap view (held_one u s j i (held_gives t u h) at))

  pub received_of_lem : {t : ℕ} (k : TrayCall) → Member k c.trays → Accepted k → k.state.round ≡ t → received_of t c ≡ received_with k
  unfolding received_of
  received_of_lem {t} k i w e = lookup_finds (accepts_round t) received_with nothing c.trays i
      (rw (eq-eqb k.answer.refusal 0 w) (eq-eqb _ _ e))
      (λ l j h.
      let both = (and-eq-true_iff (eqb l.answer.refusal 0) (eqb l.state.round t)).0 h in
      ap received_with (call_one c l k j i (eqb-true _ _ both.0) w (eqb-true _ _ both.1 ∙ sym e)))

  -- the frame sent for a round is that of the state of this round, so there is only one, and none of one that has decided
  pub sent_one : {t : ℕ} {b : List ℕ} → Sent c t b → (undecided (state_in t c) ≡ true) × (b ≡ sent_bytes (state_in t c))
  sent_one h =
      let f = sent_state c h in
      let at = sym (state_in_lem f.state f.listed (inl f.round)) in
      (subst (λ v. undecided v ≡ true) at f.active, f.bytes ∙ ap sent_bytes at)

-- ---- controllers and numbers

abbrev pub number_of : Controller → ℕ
number_of c = c.number

pub number_one : (l : List Controller) → NoRepeats (numbers l) → (c d : Controller) → Member c l → Member d l → c.number ≡ d.number → c ≡ d
number_one [] n c d i j e = absurd (Memᴰ.not-nil i)
number_one (x ∷ l) n c d i j e = elim (Memᴰ.cases_cons i) [
  | inl a ↦ elim (Memᴰ.cases_cons j) [
    | inl b ↦ a ∙ sym b
    | inr k ↦ absurd (n.0 (Memᴰ.cast (ap number_of (sym a) ∙ e) (Memᴰ.map number_of k)))
  ]
  | inr m ↦ elim (Memᴰ.cases_cons j) [
    | inl b ↦ absurd (n.0 (Memᴰ.cast (ap number_of (sym b) ∙ sym e) (Memᴰ.map number_of m)))
    | inr k ↦ number_one l n.1 c d m k e
  ]
]
