-- Laws of weights: how many sent an open list that has a number.
use Rattle.std.specs.Prelude.{ℕ, zero, suc, ◌≤◌, ◌<◌, Bool, true, false, cond, List, ◌≡◌, get_or}
use Rattle.std.proofs.Common.{arith}
use Rattle.wire.specs.Limits.{max_numbers}
use Rattle.controller.specs.Lists.{In, mem}
use Rattle.controller.specs.Work.OpenList.{end_mark, open_list, Opens, weighed}
use Rattle.controller.specs.Laws.Lists.{out_mem}
use Rattle.controller.specs.Laws.Work.Total.{total_none, total_most}

cond_most : (t : Bool) (k : ℕ) → cond t k 0 ≤ k
cond_most true k = omega arith
cond_most false k = omega arith

module _ (o b s n w : List ℕ) (m : ℕ) where
  -- a number that no list has
  pub weighed_none : (y : ℕ) → ((j : ℕ) → j < m → ¬ In y (open_list o b s n j)) → weighed o b s n w m y ≡ 0
  weighed_none y none =
      total_none (λ (j : ℕ). cond (mem y (open_list o b s n j)) (get_or w j 0) 0) m (λ j h. rw (out_mem (open_list o b s n j) (none j h)))

  module _ (opens : Opens o b s n w m) where
    -- no number has more than all weigh
    pub weighed_most : (y : ℕ) → weighed o b s n w m y ≤ max_numbers
    weighed_most y =
        let most =
        total_most (λ (j : ℕ). cond (mem y (open_list o b s n j)) (get_or w j 0) 0) (λ (j : ℕ). get_or w j 0) m
        (λ j h. cond_most (mem y (open_list o b s n j)) (get_or w j 0)) in
        omega (arith, opens.light, most)

    -- nobody lists 0
    pub weighed_positive : (y : ℕ) → 0 < weighed o b s n w m y → 0 < y
    weighed_positive zero some = absurd (omega (arith, weighed_none 0 (λ j h i. absurd (omega (arith, (opens.fit j h 0 i).0)))))
    weighed_positive (suc y) some = omega arith

    -- nor a number behind the end
    pub weighed_ended : (y : ℕ) → end_mark ≤ y → weighed o b s n w m y ≡ 0
    weighed_ended y over = weighed_none y (λ j h k. absurd (omega (arith, (opens.fit j h y k).1)))
