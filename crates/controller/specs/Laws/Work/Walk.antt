-- Laws of the walk: what it settles, from one number to the next, and when all lists have ended.
use Rattle.std.specs.Prelude.{ℕ, suc, ◌+◌, ◌/◌, ◌≤◌, ◌<◌, true, List, [], ◌∷◌, ◌≡◌, refl, ltb, get_or, Some}
use Rattle.std.proofs.Common.{inl, inr, sym, ap, ◌∙◌, arith, lt-ltb, le-ltb}
use mathlib.Core.List.Memᴰ
use Rattle.std.proofs.Math.Decide.{dec_lt}
use Rattle.wire.specs.Numbers.{stored, listed}
use Rattle.controller.specs.Lists.{In, Rising}
use Rattle.controller.specs.State.{sound_list}
use Rattle.controller.specs.Work.Lists.{below}
use Rattle.controller.specs.Thirds.{third, two_thirds}
use Rattle.controller.specs.Work.OpenList.{end_mark, open_list, Opens, weighed}
use Rattle.controller.specs.Work.Opened.{weighed_in}
use Rattle.controller.specs.Work.Heads.{slots, Standing, Ordered, keys_of, places_of, RoomyIn, StandingIn}
use Rattle.controller.specs.Work.Tally.{Settles, Sorts}
use Rattle.controller.specs.Laws.Lists.{count_none}
use Rattle.controller.specs.Laws.Work.Settle.{holds_other, below_later}
use Rattle.controller.specs.Laws.State.{sound_list_test}
use Rattle.controller.specs.Laws.Work.Heads.{stands_head}
use Rattle.controller.specs.Laws.Work.Lists.{below_more}
use Rattle.controller.specs.Laws.Thirds.{third_is, two_thirds_is}
use Rattle.controller.specs.Laws.Work.Tree.{root_least}
use Rattle.controller.specs.Laws.Work.Weights.{weighed_none, weighed_ended}
use Rattle.controller.specs.declared.heads.Heads.{Heads}
use Rattle.controller.specs.declared.open_list.OpenLists.{OpenLists}
use Rattle.controller.specs.declared.tally.Settled.{Settled}

-- ---- what is settled, from one number to a later one

module _ (v : ℕ → ℕ) (h : ℕ) (c : List ℕ) (pos : 0 < h) where
  -- a count of none reaches nothing
  not_third : (y : ℕ) → v y ≡ 0 → third (v y) h ≡ true → ⊥
  not_third y e t = omega (arith, (third_is (v y) h).0 t)

  not_two_thirds : (y : ℕ) → v y ≡ 0 → two_thirds (v y) h ≡ true → ⊥
  not_two_thirds y e t = omega (arith, (two_thirds_is (v y) h).0 t)

  pub settles_on : (x z : ℕ) {r : Settled} → x ≤ z → ((y : ℕ) → x ≤ y → y < z → v y ≡ 0) → Settles v h c x r → Settles v h c z r
  settles_on x z {r = r} le none g =
      record {
        echoes = holds_other g.echoes
            (λ y p. (omega (arith, p.0), p.1))
            (λ y p. elim (dec_lt y x) [ yes l ↦ (l, p.1) | no l ↦ absurd (not_third y (none y (omega arith) p.0) p.1.0) ]);
        candidates = holds_other g.candidates
            (λ y p. below_later le p)
            (λ y p. elim p [
              | inl i ↦ inl i
              | inr t ↦ inr (elim (dec_lt y x) [ yes l ↦ (l, t.1) | no l ↦ absurd (not_two_thirds y (none y (omega arith) t.0) t.1) ])
            ]);
        place = omega (arith, g.place, below_more x z (listed r.candidates) le);
      }

  pub settles_all : (x : ℕ) {r : Settled} → ((y : ℕ) → x ≤ y → v y ≡ 0) → Settles v h c x r → Sorts v h c (Some tt) r
  settles_all x none g = (
    holds_other g.echoes (λ y p. p.1) (λ y p. elim (dec_lt y x) [ yes l ↦ (l, p) | no l ↦ absurd (not_third y (none y (omega arith)) p.0) ]),
    holds_other g.candidates
        (λ y p. elim p [ inl i ↦ inl i | inr t ↦ inr t.1 ])
        (λ y p. elim p [
          | inl i ↦ inl i
          | inr t ↦ inr (elim (dec_lt y x) [ yes l ↦ (l, t) | no l ↦ absurd (not_two_thirds y (none y (omega arith)) t) ])
        ]),
  )

-- before the walk nothing is echoed, and the candidates are those that were
pub settles_none : (v : ℕ → ℕ) (h : ℕ) {r : Settled} → r.echoed ≡ stored [] → sound_list r.candidates ≡ true → r.place ≡ 0
    → Settles v h (listed r.candidates) 0 r
settles_none v h empty sound place =
    record {
      echoes = rw empty (record {
        sound = sound_list_test [] (record { short = omega arith; rises = tt; positive = λ y i. absurd (Memᴰ.not-nil i) });
        has = λ y. (λ i. absurd (Memᴰ.not-nil i), λ p. absurd (omega (arith, p.0)));
      });
      candidates = record { sound = sound; has = λ y. (λ i. inl i, λ p. elim p [ inl i ↦ i | inr t ↦ absurd (omega (arith, t.0)) ]) };
      place = omega (arith, place);
    }

-- ---- the heads, from one number to a later one

-- the first number of a rising list that is not below x is at most any such
below_first : (x y : ℕ) (l : List ℕ) → Rising l → In y l → x ≤ y → get_or l (below x l) end_mark ≤ y
below_first x y [] up i le = elim i [ ]
below_first x y (z ∷ l) up i le = elim (dec_lt z x) [
  | yes s ↦ rw (lt-ltb z x s) (elim (Memᴰ.cases_cons i) [ inl e ↦ absurd (omega (arith, e)) | inr j ↦ below_first x y l up.1 j le ])
  | no s ↦
      rw (le-ltb z x (omega arith), count_none (λ w. ltb w x) l (λ w j. le-ltb w x (omega (arith, up.0 w j))))
      (elim (Memᴰ.cases_cons i) [ inl e ↦ omega (arith, e) | inr j ↦ omega (arith, up.0 y j) ])
]

-- no number from x up to z is in a list whose head is at least z
below_none : (x z y : ℕ) (l : List ℕ) → Rising l → z ≤ get_or l (below x l) end_mark → x ≤ y → y < z → ¬ In y l
below_none x z y l up le from to i = absurd (omega (arith, below_first x y l up i from))

below_stays : (x z : ℕ) (l : List ℕ) → Rising l → x ≤ z → z ≤ get_or l (below x l) end_mark → below z l ≡ below x l
below_stays x z [] up from le = refl
below_stays x z (y ∷ l) up from le = elim (dec_lt y x) [
  | yes s ↦ rw (lt-ltb y x s, lt-ltb y z (omega arith)) (ap suc (below_stays x z l up.1 from (rw (lt-ltb y x s) at le)))
  | no s ↦
      let first : below x (y ∷ l) ≡ 0 = rw (le-ltb y x (omega arith)) (count_none (λ w. ltb w x) l (λ w j. le-ltb w x (omega (arith, up.0 w j)))) in
      let high : z ≤ y = rw first at le in
      sym (first ∙ sym (rw (le-ltb y z high) (count_none (λ w. ltb w z) l (λ w j. le-ltb w z (omega (arith, up.0 w j))))))
]

module _ (o b s n w : List ℕ) (m : ℕ) (opens : Opens o b s n w m) (x : ℕ) (t p i : List ℕ) (stands : Standing o b s n m x t p i) where
  -- the head of a list, where no head is below z
  head : {z : ℕ} (j : ℕ) → j < m → ((j : ℕ) → j < m → z ≤ get_or t (m + j) 0 / slots)
      → z ≤ get_or (open_list o b s n j) (below x (open_list o b s n j)) end_mark
  head j h low = omega (arith, low j h, stands_head (opens.rises j h) (omega (arith, opens.few)) (stands j h))

  -- so no number from x up to z is in a list
  pub standing_none : (z : ℕ) → ((j : ℕ) → j < m → z ≤ get_or t (m + j) 0 / slots) → (y : ℕ) → x ≤ y → y < z → weighed o b s n w m y ≡ 0
  standing_none z low y from to =
      weighed_none o b s n w m y (λ j h. below_none x z y (open_list o b s n j) (opens.rises j h) (head j h low) from to)

  pub standing_on : (z : ℕ) → x ≤ z → ((j : ℕ) → j < m → z ≤ get_or t (m + j) 0 / slots) → Standing o b s n m z t p i
  standing_on z from low j h =
      let l = open_list o b s n j in
      let e : below z l ≡ below x l = below_stays x z l (opens.rises j h) from (head j h low) in
      record { head = rw e (stands j h).head; ahead = rw e (stands j h).ahead; place = rw e (stands j h).place }

-- ---- the walk's turns

-- what the walk knows when it looks at the first key f
pub record Walking (o : OpenLists) (h : ℕ) (c : List ℕ) (g : Heads) (r : Settled) (f : ℕ) : Type 0 where
  pub room : RoomyIn g
  pub first : f ≡ get_or g.tree 1 0
  pub ordered : Ordered g.tree o.len
  pub standing : StandingIn o (f / slots) g
  pub settles : Settles (weighed_in o) h c (f / slots) r

module _ (o : OpenLists) (h : ℕ) (c : List ℕ) (pos : 0 < h) where
  -- from a number on to the first key
  module _ (x : ℕ) (g : Heads) (r : Settled)
      (room : RoomyIn g)
      (ordered : Ordered g.tree o.len)
      (stands : StandingIn o x g)
      (settles : Settles (weighed_in o) h c x r)
      (later : x ≤ get_or g.tree 1 0 / slots)
    where
      low : (j : ℕ) → j < o.len → get_or g.tree 1 0 / slots ≤ get_or g.tree (o.len + j) 0 / slots
      low j l = omega (arith, root_least g.tree o.len (o.len + j) ordered (omega arith) (omega arith))

      pub walking_on : Walking o h c g r (get_or g.tree 1 0)
      walking_on =
          record {
            room = room;
            first = refl;
            ordered = ordered;
            standing = standing_on _ _ _ _ _ _ o.opens x g.tree (keys_of g.ahead) (places_of g.ahead) stands (get_or g.tree 1 0 / slots) later low;
            settles =
                settles_on (weighed_in o) h c pos x (get_or g.tree 1 0 / slots) later
                (standing_none _ _ _ _ _ _ o.opens x g.tree (keys_of g.ahead) (places_of g.ahead) stands (get_or g.tree 1 0 / slots) low)
                settles;
          }

  pub walking_end : {g : Heads} {r : Settled} {f : ℕ} → Walking o h c g r f → end_mark ≤ f / slots → Sorts (weighed_in o) h c (Some tt) r
  walking_end {f = f} g over = settles_all (weighed_in o) h c pos (f / slots) (λ y from. weighed_ended _ _ _ _ _ _ o.opens y (omega arith)) g.settles
