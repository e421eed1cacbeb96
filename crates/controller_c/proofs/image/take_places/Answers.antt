-- `controller_c::image::take_places` meets its contract: what is left to read, stored behind what was read, gives all the places.
use Rattle.std.specs.Prelude.{List, [], set, replicate}
use Rattle.std.proofs.Math.Path.{◌≡◌, ◌∙◌}
use Rattle.std.proofs.Math.Nat.{add-zero}
use Rattle.std.proofs.Common.{add-one, arith, rules, ℕ, suc, ◌+◌, ◌*◌, ◌-◌, ◌≤◌, ◌<◌}
use Rattle.std.proofs.lemmas.List.Edits.{sets}
use Rattle.wire.specs.Limits.{max_numbers, number_width}
use Rattle.controller_c.specs.Image.{places_at}
use Rattle.controller_c.specs.Words.{number_at, numbers_at}
use Rattle.controller_c.specs.Laws.Words.{numbers_length}
use Rattle.controller_c.proofs.Stores.{sets_whole}
use Rattle.controller_c.proofs.image.take_places.Invariants.{rest}
use Rattle.controller_c.proofs.image.take_places.Goals as goal

module _ (b : List ℕ) (from : ℕ) where
  turn : (i x : ℕ) (l : List ℕ) → i < max_numbers → x ≡ number_at b (from + number_width * i)
      → sets (set l i x) (i + 1) (rest b from (i + 1)) ≡ sets l i (rest b from i)
  turn i x l h e =
      let left : max_numbers - i ≡ suc (max_numbers - (i + 1)) = omega arith in
      let next : from + number_width * i + number_width ≡ from + number_width * (i + 1) = omega arith in
      rw (left, next, ← e, add-one)

  done : (i : ℕ) → max_numbers ≤ i → rest b from i ≡ []
  done i h = let e : max_numbers - i ≡ 0 = omega arith in rw e

  all : sets (replicate max_numbers 0) 0 (rest b from 0) ≡ places_at b from
  unfolding places_at
  all = rw add-zero (sets_whole (replicate max_numbers 0) (numbers_at b from max_numbers) (numbers_length b from max_numbers))

pub loop-i-preserved : goal.loop-i-preserved
loop-i-preserved c =
    let a = c.args in
    turn a.image.now a.from c.loop-i.i c.word.result c.loop-i.at (search rules) c.word.ensures ∙ c.loop-i.invariant

pub returns : goal.returns
returns c =
    let a = c.args in
    rw (done a.image.now a.from c.loop-i.i c.loop-i-test.false) at c.loop-i.invariant ∙ all a.image.now a.from
