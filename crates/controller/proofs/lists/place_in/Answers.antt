-- `controller::lists::place_in` meets its contract: in a rising list the numbers below x come first, so the place that parts them is their count.
use Rattle.std.proofs.Common.{arith, rules, true, false, ltb-true, ltb-false, lt-ltb, inl, inr, ◌≡◌, ◌-◌, ◌≤◌, ◌<◌, length, get_or, ℕ, List, ltb}
use Rattle.std.proofs.lemmas.Bool.{cases_lt}
use Rattle.std.proofs.lemmas.List.Sorted.{IsPartitionPoint-from_clause}
use Rattle.std.specs.List.Sorted.{IsPartitionPoint}
use Rattle.wire.specs.Numbers.{listed}
use Rattle.controller.specs.Laws.Lists.{get_or_inside}
use Rattle.controller.specs.Laws.State.{sound_list_gives}
use Rattle.controller.specs.Laws.Work.Lists.{below_past, below_within, below_length}
use Rattle.controller.specs.Lists.{Rising}
use Rattle.controller.specs.Work.Lists.{below}
use Rattle.controller.proofs.lists.place_in.Goals as goal

module _ (x : ℕ) (l : List ℕ) (up : Rising l) where
  -- what stands before a number below x is below x too
  parted : (i j d : ℕ) → i ≤ j → j < length l → ltb (get_or l j d) x ≡ true → ltb (get_or l i d) x ≡ true
  parted i j d le h t = elim (cases_lt (get_or l i d) x) [
    | inl lt ↦ lt-ltb _ x lt
    | inr ge ↦
        let there : get_or l j 0 < x = omega (arith, get_or_inside l j d 0 h, ltb-true _ x t) in
        let here : x ≤ get_or l i 0 = omega (arith, get_or_inside l i d 0 (omega arith)) in
        absurd (omega (arith, below_past x l j up h there, below_within x l i up (omega arith) here))
  ]

  -- where those before place i are below x and the others are not, that is the place of x
  counted : (i : ℕ) → i ≤ length l → IsPartitionPoint (λ y. ltb y x ≡ true) (λ y. ltb y x ≡ false) l i → i ≡ below x l
  counted i h point =
      let low : i ≤ below x l = elim (cases_lt 0 i) [
        | inl p ↦ omega (arith, below_past x l (i - 1) up (omega arith) (ltb-true _ x (point.0 (i - 1) 0 (omega arith) (omega arith))))
        | inr p ↦ omega arith
      ] in
      let high : below x l ≤ i = elim (cases_lt i (length l)) [
        | inl p ↦ below_within x l i up p (ltb-false _ x (point.1 i 0 (omega arith) p))
        | inr p ↦ omega (arith, below_length x l)
      ] in
      omega arith

pub returns : goal.returns
returns c =
    let list = listed c.args.list.now in
    let up = (sound_list_gives c.args.list.now c.requires).list.rises in
    let point = IsPartitionPoint-from_clause (λ y. ltb y c.args.x) list _ c.partition_point.ensures.partitioned (parted c.args.x list up)
    (λ a r q k. search rules) in
    counted c.args.x list up _ c.partition_point.ensures.bound point
