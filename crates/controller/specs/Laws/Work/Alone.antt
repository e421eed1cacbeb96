-- Laws of the own list alone: what follows where more than two thirds sent it, and settling its numbers one by one.
--     agrees_decides     where more than two thirds agree, the other lists change nothing: each number of the own one has reached two thirds without them, and
--                        no other number reaches a third with them
--     Passed             the numbers at the first places of a rising list are settled
use Rattle.std.specs.Prelude.{ℕ, ◌+◌, ◌*◌, ◌≤◌, ◌<◌, false, List, ◌≡◌, ◌↔◌, ltb, length, get_or, Option, Some, None}
use Rattle.std.proofs.Common.{inl, inr, sym, ◌∙◌, arith, le-leb, le-ltb}
use Rattle.std.proofs.Math.Decide.{dec_lt}
use Rattle.std.proofs.lemmas.Bool.{lt-leb}
use Rattle.controller.specs.Lists.{In, mem, Rising}
use Rattle.controller.specs.Thirds.{third, two_thirds}
use Rattle.controller.specs.Work.Lists.{below}
use Rattle.controller.specs.Work.Opened.{having}
use Rattle.controller.specs.Work.Own.{Agrees}
use Rattle.controller.specs.Work.Tally.{Echoed, Candidate, Crowd, Settles, alone, Sorts}
use Rattle.controller.specs.Laws.Lists.{true_or_false, out_mem, count_none, rising_place, rising_at}
use Rattle.controller.specs.Laws.Work.Lists.{below_past, below_within, below_length, below_misses, below_more}
use Rattle.controller.specs.Laws.Work.Settle.{holds_other}
use Rattle.controller.specs.Laws.Work.Walk.{settles_on, settles_all}
use Rattle.controller.specs.declared.tally.Settled.{Settled}

-- ---- more than two thirds sent it

module _ (l : ℕ → List ℕ) (m : List ℕ) (h k : ℕ) (pos : 0 < h) (agrees : Agrees l m h k) (most : 2 * h < 3 * k) (c : List ℕ) where
  thirds : (y : ℕ) → third (alone m k y) h ≡ third (having l h y) h
  unfolding third
  thirds y = elim (true_or_false (mem y m)) [
    | inl t ↦ let i = (agrees y).0 t in rw t (le-leb h (3 * k) (omega arith) ∙ sym (le-leb h (3 * having l h y) (omega arith)))
    | inr t ↦ let i = (agrees y).1 t in rw t (lt-leb h 0 pos ∙ sym (lt-leb h (3 * having l h y) (omega arith)))
  ]

  two_thirds_lem : (y : ℕ) → two_thirds (alone m k y) h ≡ two_thirds (having l h y) h
  unfolding two_thirds
  two_thirds_lem y = elim (true_or_false (mem y m)) [
    | inl t ↦ let i = (agrees y).0 t in rw t (le-leb (2 * h) (3 * k) (omega arith) ∙ sym (le-leb (2 * h) (3 * having l h y) (omega arith)))
    | inr t ↦ let i = (agrees y).1 t in rw t (lt-leb (2 * h) 0 (omega arith) ∙ sym (lt-leb (2 * h) (3 * having l h y) (omega arith)))
  ]

  echoed_alike : (y : ℕ) → Echoed (alone m k) h c y ↔ Echoed (having l h) h c y
  echoed_alike y = (λ p. (sym (thirds y) ∙ p.0, p.1), λ p. (thirds y ∙ p.0, p.1))

  candidates_alike : (y : ℕ) → Candidate (alone m k) h c y ↔ Candidate (having l h) h c y
  candidates_alike y = (
    λ p. elim p [ inl i ↦ inl i | inr t ↦ inr (sym (two_thirds_lem y) ∙ t) ],
    λ p. elim p [ inl i ↦ inl i | inr t ↦ inr (two_thirds_lem y ∙ t) ],
  )

  crowd_alike : {P Q : ℕ → Type 0} → ((y : ℕ) → P y → Q y) → Crowd P → Crowd Q
  crowd_alike more crowd = (crowd.0, crowd.1, crowd.2, λ y i. more y (crowd.3 y i))

  pub agrees_decides : (o : Option Unit) (r : Settled) → Sorts (alone m k) h c o r → Sorts (having l h) h c o r
  agrees_decides (Some u) r g = (
    holds_other g.0 (λ y. (echoed_alike y).0) (λ y. (echoed_alike y).1),
    holds_other g.1 (λ y. (candidates_alike y).0) (λ y. (candidates_alike y).1),
  )
  agrees_decides None r (inl crowd) = inl (crowd_alike (λ y. (echoed_alike y).0) crowd)
  agrees_decides None r (inr crowd) = inr (crowd_alike (λ y. (candidates_alike y).0) crowd)

-- ---- its numbers, one by one

module _ (l : List ℕ) (k h : ℕ) (c : List ℕ) where
  absent : (y : ℕ) → mem y l ≡ false → alone l k y ≡ 0
  absent y t = rw t

  -- the numbers below a bound are settled, and those are the numbers at the first i places
  pub record Passed (i : ℕ) (r : Settled) : Type 0 where
    pub bound : ℕ
    pub place : below bound l ≡ i
    pub settles : Settles (alone l k) h c bound r

  pub passed_none : {r : Settled} → Settles (alone l k) h c 0 r → Passed 0 r
  passed_none settled = record { bound = 0; place = count_none (λ y. ltb y 0) l (λ y i. le-ltb y 0 (omega arith)); settles = settled }

  module _ (up : Rising l) (pos : 0 < h) {i : ℕ} {r : Settled} where
    -- the next number is the least that is left
    pub passed_next : Passed i r → i < length l → Settles (alone l k) h c (get_or l i 0) r
    passed_next p inside =
        let x = p.bound in
        let z = get_or l i 0 in
        let place = p.place in
        let low : x ≤ z = elim (dec_lt z x) [ yes lt ↦ absurd (omega (arith, below_past x l i up inside lt)) | no le ↦ omega arith ] in
        settles_on (alone l k) h c pos x z low (λ y from to. absent y (out_mem l (between y from to))) p.settles
      where
        between : (y : ℕ) → p.bound ≤ y → y < get_or l i 0 → ¬ In y l
        between y from to in_list =
            let least = below_more p.bound y l from in
            let most = below_within y l i up inside (omega arith) in
            let same : below y l ≡ i = omega (arith, p.place) in
            let here : get_or l i 0 ≡ y = rw same at (rising_place y l up in_list) in
            absurd (omega arith)

    pub passed_on : i < length l → Settles (alone l k) h c (get_or l i 0 + 1) r → Passed (i + 1) r
    passed_on inside settled =
        let z = get_or l i 0 in
        let least : i < below (z + 1) l = below_past (z + 1) l i up inside (omega arith) in
        record { bound = z + 1; place = omega (arith, most); settles = settled }
      where
        above : i + 1 < length l → get_or l i 0 + 1 ≤ get_or l (i + 1) 0
        above more = elim (dec_lt (get_or l (i + 1) 0) (get_or l i 0 + 1)) [
          | yes lt ↦
              let there = rising_at l (i + 1) up more in
              absurd (omega (arith, there, below_within (get_or l (i + 1) 0) l i up inside (omega arith)))
          | no le ↦ omega arith
        ]

        most : below (get_or l i 0 + 1) l ≤ i + 1
        most = elim (dec_lt (i + 1) (length l)) [
          | yes more ↦ below_within (get_or l i 0 + 1) l (i + 1) up more (above more)
          | no last ↦ omega (arith, below_length (get_or l i 0 + 1) l)
        ]

    pub passed_all : Passed i r → length l ≤ i → Sorts (alone l k) h c (Some tt) r
    passed_all p all =
        settles_all (alone l k) h c pos p.bound
        (λ y from. absent y (below_misses y l (omega (arith, p.place, below_more p.bound y l from)))) p.settles
