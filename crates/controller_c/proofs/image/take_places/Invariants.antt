-- `controller_c::image::take_places` meets its contract: what is left to read, stored behind what was read, gives all the places.
use Rattle.std.proofs.Common.{ℕ, ◌+◌, ◌*◌, ◌-◌}
use Rattle.std.specs.Prelude.{List, replicate}
use Rattle.std.proofs.Math.Path.{◌≡◌}
use Rattle.std.proofs.lemmas.List.Edits.{sets}
use Rattle.wire.specs.Limits.{max_numbers, number_width}
use Rattle.controller_c.specs.Words.{numbers_at}
use Rattle.controller_c.proofs.image.take_places.Given as goal

-- what is left to read at turn i
abbrev pub rest : List ℕ → ℕ → ℕ → List ℕ
rest b from i = numbers_at b (from + number_width * i) (max_numbers - i)

abbrev pub invariant-loop-i : goal.invariant-loop-i
invariant-loop-i l = sets l.at l.i (rest l.image l.from l.i) ≡ sets (replicate max_numbers 0) 0 (rest l.image l.from 0)
