-- `controller_c::image::reserved_zero` meets its contract: the bytes that are left are 0, and those passed, joined, are, exactly if all are.
use Rattle.std.proofs.Math.Bool.{◌&&◌}
use Rattle.std.proofs.Math.Path.{◌≡◌}
use Rattle.std.specs.Prelude.{eqb, drop}
use Rattle.controller_c.specs.Image.{zeros}
use Rattle.controller_c.proofs.image.reserved_zero.Given as goal

abbrev pub invariant-loop-byte : goal.invariant-loop-byte
invariant-loop-byte l = (eqb l.all 0 && zeros (drop l.byte-index l.byte-items)) ≡ zeros l.byte-items
