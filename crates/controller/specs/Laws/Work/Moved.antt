-- Laws of the record as it is moved to beside those heard after a tray: its places are those that the rules' words give.
use Rattle.std.specs.Prelude.{true, ◌≡◌, refl, get_or, take}
use Rattle.std.proofs.Math.Bool.{cond}
use mathlib.Core.List.Memᴰ
use Rattle.std.proofs.Math.Logic.{inl, inr}
use Rattle.std.proofs.Math.Path.{sym, ap}
use Rattle.std.proofs.Common.{◌∙◌, arith, eq-eqb, ne_eqb, lt-ltb, le-ltb, take-append-drop, ext_get_or, length-take-le, ℕ, ◌-◌, ◌≤◌, ◌<◌, List, []}
use Rattle.std.proofs.Common.{◌∷◌, ◌++◌, map}
use Rattle.std.proofs.Math.Decide.{ℕ_discrete}
use Rattle.std.proofs.Math.Dec.{ltb}
use Rattle.std.proofs.Math.ListN.{length, drop, replicate, get_or-map}
use Rattle.std.proofs.lemmas.List.{length-map}
use Rattle.std.proofs.Math.Seq.{get_or-take}
use Rattle.wire.specs.Limits.{max_numbers}
use Rattle.wire.specs.Numbers.{stored, listed}
use Rattle.wire.specs.declared.frame.Numbers.{Numbers}
use Rattle.wire.specs.Tray.{Entry}
use Rattle.controller.specs.First.{first_of, firsts_after, rounds_after}
use Rattle.controller.specs.Laws.First.{alongside_length}
use Rattle.controller.specs.Laws.Lists.{true_or_false, in_or_not, in_mem, mem_in, get_or_in, count_none, rising_at, inside_length, get_or_inside}
use Rattle.controller.specs.Laws.Lists.{rising_no_repeats, rising_same}
use Rattle.controller.specs.Laws.Received.{heard_in_lem}
use Rattle.controller.specs.Laws.Work.Lists.{below_inside, unused_from}
use Rattle.controller.specs.Laws.State.{sound_beside_lem, beside_gives, sound_gives, sound_list_gives}
use Rattle.controller.specs.Lists.{In, Inside, Rising, mem}
use Rattle.controller.specs.Received.{receive}
use Rattle.controller.specs.State.{view, first_rounds, first_fits, recorded, sound}
use Rattle.controller.specs.Work.First.{moved_to, Grown}
use Rattle.controller.specs.Work.Lists.{below}
use Rattle.controller.specs.declared.state.State.{State}

-- ---- two rising lists

-- one that has all of another, and is no longer, is that other
inside_same : (l m : List ℕ) → Rising l → Rising m → Inside l m → length m ≤ length l → m ≡ l
inside_same l m up up' inside short =
    rising_same m l up' up
    (λ x i. elim (in_or_not x l) [
      | inl j ↦ j
      | inr out ↦
          let more = inside_length (x ∷ l) {m = m} (out, rising_no_repeats l up)
          (λ y k. elim (Memᴰ.cases_cons k) [ inl e ↦ rw (sym e) at i | inr j ↦ inside y j ]) in
          absurd (omega (arith, more))
    ])
    inside

-- of two stored lists, one that has all of the other and is no longer is that other
pub grown_same : (n m : Numbers) → Grown n m → m.len ≤ n.len → m ≡ n
grown_same n m g short =
    let few = sound_list_gives n g.fewer in
    let many = sound_list_gives m g.more in
    let same = inside_same (listed n) (listed m) few.list.rises many.list.rises g.inside (omega (arith, few.used, many.used)) in
    sym many.back ∙ ap stored same ∙ few.back

-- ---- the place of a number's round

-- in a rising list the round stands at the number's place
first_place : (l w : List ℕ) (x : ℕ) → Rising l → In x l → first_of x l w ≡ get_or w (below x l) 0
first_place [] w x up i = absurd (Memᴰ.not-nil i)
first_place (y ∷ l) [] x up i = refl
first_place (y ∷ l) (t ∷ w) x up i = elim (ℕ_discrete x y) [
  | yes e ↦
      let none : below x l ≡ 0 = count_none (λ z. ltb z x) l (λ z j. le-ltb z x (omega (arith, e, up.0 z j))) in
      rw (eq-eqb x y e, le-ltb y x (omega (arith, e)), none)
  | no d ↦ elim (Memᴰ.cases_cons i) [
    | inl e ↦ absurd (d e)
    | inr j ↦ rw (ne_eqb x y d, lt-ltb y x (up.0 x j)) (first_place l w x up.1 j)
  ]
]

-- moved to beside the same numbers it stays
pub moved_same : (l w : List ℕ) (t : ℕ) → Rising l → length l ≤ length w → moved_to l l t w ≡ w
moved_same l w t up short =
    let f : ℕ → ℕ = λ x. cond (mem x l) (get_or w (below x l) 0) t in
    let size : length (map f l) ≡ length l = length-map l f in
    let used : map f l ≡ take (length l) w = ext_get_or 0 (map f l) (take (length l) w) (size ∙ sym (length-take-le (length l) w short)) (λ j h.
    let inside : j < length l = omega (arith, size) in
    get_or_inside (map f l) j 0 (f 0) h ∙ get_or-map f l j 0
    ∙ rw (in_mem (get_or_in l j inside), rising_at l j up inside) (sym (get_or-take (length l) w j 0 inside))) in
    ap (λ (u : List ℕ). u ++ drop (length l) w) used ∙ take-append-drop (length l) w

-- ---- the record after a tray

module _ (s : State) (es : List Entry) (h : sound s ≡ true) where
  abbrev l : List ℕ
  l = listed s.heard

  abbrev m : List ℕ
  m = (receive (view s) es).heard

  up : Rising l
  up = (sound_gives s h).heard.rises

  more : length l ≤ length m
  more = inside_length l (rising_no_repeats l up) (λ x i. (heard_in_lem (view s) es).1 (inr i))

  as_many : length (first_rounds s) ≡ length l
  as_many = alongside_length (first_fits s.own) l (first_rounds s) (beside_gives s.own l s.since (sound_beside_lem s h)).0

  places : recorded (first_rounds s) ≡ s.since
  places = (beside_gives s.own l s.since (sound_beside_lem s h)).1

  pub moved_recorded : moved_to l m s.round s.since ≡ rounds_after s es
  unfolding firsts_after
  moved_recorded =
      let given : ℕ → ℕ = λ x. cond (mem x l) (first_of x l (first_rounds s)) s.round in
      let same : (λ x. cond (mem x l) (get_or s.since (below x l) 0) s.round) ≡ given = λ i x. sym (each x) i in
      let rest : drop (length m) s.since ≡ replicate (max_numbers - length m) 0 =
      ap (drop (length m)) (sym places) ∙ unused_from (first_rounds s) (length m) (omega (arith, as_many, more)) in
      ap (λ (f : ℕ → ℕ). map f m ++ drop (length m) s.since) same
      ∙ ap (λ (r : List ℕ). map given m ++ r) rest
      ∙ ap (λ (n : ℕ). map given m ++ replicate (max_numbers - n) 0) (sym (length-map m given))
    where
      each : (x : ℕ) → cond (mem x l) (first_of x l (first_rounds s)) s.round ≡ cond (mem x l) (get_or s.since (below x l) 0) s.round
      each x = elim (true_or_false (mem x l)) [
        | inl t ↦
            let i : In x l = mem_in l t in
            rw t (first_place l (first_rounds s) x up i ∙ get_or-take (length l) s.since (below x l) 0 (below_inside x l i))
        | inr t ↦ rw t
      ]
