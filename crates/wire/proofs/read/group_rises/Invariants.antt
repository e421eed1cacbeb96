-- `wire::read::group_rises` meets its contract: the numbers passed rose and what is left rises from above the last of them exactly if the whole group rises.
use Rattle.std.proofs.Math.Bool.{◌&&◌}
use Rattle.std.proofs.Math.Path.{◌≡◌}
use Rattle.std.specs.Int.{w32, from_be_bytes}
use Rattle.std.specs.Prelude.{drop, map}
use Rattle.wire.specs.Numbers.{rising}
use Rattle.wire.proofs.read.group_rises.Given as goal

abbrev pub invariant-loop-number : goal.invariant-loop-number
invariant-loop-number l =
    (l.ok && rising l.last (map (from_be_bytes w32) (drop l.number-index l.group))) ≡ rising l.before (map (from_be_bytes w32) l.group)
