-- Words for first.rt: the record beside those heard. They are no part of the rules: the laws tie them to the rules' words.
--     is_zero t            t is 0, no round
--     timely w             no round of w is past the last that can be worked
--     RoundsSound n i w r  r says whether a record with the places w is sound beside any n rising numbers, where the one at place i is the own one
--     moved_to l m t w     the places w of the record beside l, moved to beside m: a number that is not in l has the round t
--     Grown n m            two lists in their stored form, of which the second has all that the first has
use Rattle.std.specs.Prelude.{ℕ, Bool, true, cond, ◌&&◌, List, [], ◌∷◌, ◌++◌, map, ◌≡◌, ltb, eqb, length, get_or, drop}
use Rattle.wire.specs.Limits.{last_round}
use Rattle.wire.specs.Numbers.{listed}
use Rattle.wire.specs.declared.frame.Numbers.{Numbers}
use Rattle.controller.specs.Lists.{mem, Inside, Rising}
use Rattle.controller.specs.State.{sound_list, sound_beside}
use Rattle.controller.specs.Work.Lists.{below}

abbrev pub is_zero : ℕ → Bool
is_zero t = eqb t 0

abbrev pub timely : List ℕ → Bool
timely [] = true
timely (t ∷ w) = ltb t last_round && timely w

abbrev pub RoundsSound : ℕ → ℕ → List ℕ → Bool → Type 0
RoundsSound n i w r = (l : List ℕ) → length l ≡ n → Rising l → r ≡ sound_beside (get_or l i 0) l w

abbrev pub moved_to : List ℕ → List ℕ → ℕ → List ℕ → List ℕ
moved_to l m t w = map (λ (x : ℕ). cond (mem x l) (get_or w (below x l) 0) t) m ++ drop (length m) w

pub record Grown (n m : Numbers) : Type 0 where
  pub fewer : sound_list n ≡ true
  pub more : sound_list m ≡ true
  pub inside : Inside (listed n) (listed m)
