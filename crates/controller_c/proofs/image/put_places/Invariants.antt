-- `controller_c::image::put_places` meets its contract: what is left to store, stored behind what was stored, gives the whole run of stores.
use Rattle.std.proofs.Common.{◌+◌, ◌*◌}
use Rattle.std.proofs.Math.Path.{◌≡◌}
use Rattle.std.specs.Prelude.{drop}
use Rattle.std.proofs.lemmas.List.Edits.{sets}
use Rattle.wire.specs.Limits.{number_width}
use Rattle.controller_c.specs.Words.{numbers_bytes}
use Rattle.controller_c.proofs.image.put_places.Given as goal

abbrev pub invariant-loop-i : goal.invariant-loop-i
invariant-loop-i l = sets l.image (l.from + number_width * l.i) (numbers_bytes (drop l.i l.at)) ≡ sets l.initial.image l.from (numbers_bytes l.at)
