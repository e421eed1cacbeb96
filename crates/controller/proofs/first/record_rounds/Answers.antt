-- `controller::first::record_rounds` meets its contract: after j turns the record is the old one, moved to beside the first j numbers.
use Rattle.std.proofs.Common.{arith, ap, refl, add-one, take-suc, length-take-le, length, get_or, set, take, drop, cond, map, Ok, Err, ℕ, List, []}
use Rattle.std.proofs.Common.{◌∷◌, ◌++◌, ◌∙◌, ◌≡◌, ◌+◌, ◌<◌}
use Rattle.wire.specs.Numbers.{listed}
use Rattle.controller.specs.Laws.Lists.{in_mem, out_mem}
use Rattle.controller.specs.Laws.State.{sound_list_gives}
use Rattle.controller.specs.Laws.Work.Lists.{found_known, found_unknown, found_inside}
use Rattle.controller.specs.Lists.{mem}
use Rattle.controller.specs.Work.First.{moved_to}
use Rattle.controller.specs.Work.Lists.{below, found_in}
use Rattle.controller.proofs.first.record_rounds.Goals as goal
use Rattle.controller.proofs.first.record_rounds.Goals.{in-Ok, in-Err}

-- the round of x, where w is the record beside l and t the tray's round
abbrev round_of : List ℕ → List ℕ → ℕ → ℕ → ℕ
round_of l w t x = cond (mem x l) (get_or w (below x l) 0) t

-- one more number behind those that have their rounds
extend : (f : ℕ → ℕ) (m w : List ℕ) (x : ℕ) → length m < length w
    → set (map f m ++ drop (length m) w) (length m) (f x) ≡ map f (m ++ x ∷ []) ++ drop (length (m ++ x ∷ [])) w
extend f [] [] x h = absurd (omega arith)
extend f [] (z ∷ w) x h = refl
extend f (y ∷ m) [] x h = absurd (omega arith)
extend f (y ∷ m) (z ∷ w) x h = ap (λ (s : List ℕ). f y ∷ s) (extend f m w x (omega arith))

module _ (l all w : List ℕ) (t j : ℕ) where
  -- one turn
  turn : (s : List ℕ) (r : ℕ) → j < length all → j < length w → s ≡ moved_to l (take j all) t w → r ≡ round_of l w t (get_or all j 0)
      → set s j r ≡ moved_to l (take (j + 1) all) t w
  turn s r h k e f =
      let x = get_or all j 0 in
      let size = length-take-le j all (omega arith) in
      let next : take (j + 1) all ≡ take j all ++ x ∷ [] = rw add-one (take-suc all j 0 h) in
      rw (e, f, next, size) (rw size at (extend (round_of l w t) (take j all) w x (rw size k)))

  old_round : (place : ℕ) → Ok place ≡ found_in (get_or all j 0) l → get_or w place 0 ≡ round_of l w t (get_or all j 0)
  old_round place found = let at = found_known _ place l found in rw (in_mem at.0, at.1)

  new_round : (place : ℕ) → Err place ≡ found_in (get_or all j 0) l → t ≡ round_of l w t (get_or all j 0)
  new_round place found = rw (out_mem l (found_unknown _ place l found).0)

pub bounds-old-place : goal.bounds-old-place
bounds-old-place c =
    let tests = sound_list_gives c.args.heard.now c.requires.sound in
    omega (arith, tests.list.short, found_inside _ _ (listed c.args.heard.now) c.in-Ok.ensures)

pub loop-j-preserved : goal.loop-j-preserved
loop-j-preserved c =
    let l = listed c.args.heard.now in
    let all = c.args.all.now.at in
    let w = c.args.since.now in
    let t = c.args.round in
    let j = c.loop-j.j in
    let round : c.match-find_near.since ≡ round_of l w t (get_or all j 0) = elim c.match-find_near.branch [
      | in-Ok p ↦ p.since-is ∙ old_round l all w t j _ p.in-Ok.ensures
      | in-Err p ↦ p.since-is ∙ new_round l all w t j _ p.in-Err.ensures
    ] in
    turn l all w t j c.loop-j.since c.match-find_near.since (omega arith) (omega arith) c.loop-j.invariant round

pub returns : goal.returns
returns c =
    let e : c.loop-j.j ≡ c.args.all.now.len = omega arith in
    rw e at c.loop-j.invariant
