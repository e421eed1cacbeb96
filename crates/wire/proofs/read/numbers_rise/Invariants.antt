-- `wire::read::numbers_rise` meets its contract: what is left rises from above the last number passed exactly if the whole list rises.
use Rattle.std.proofs.Math.Path.{◌≡◌}
use Rattle.std.specs.Int.{w32, from_be_bytes}
use Rattle.std.specs.Prelude.{◌*◌, drop, map}
use Rattle.wire.specs.Numbers.{rising}
use Rattle.wire.proofs.read.numbers_rise.Given as goal

abbrev pub invariant-loop-group : goal.invariant-loop-group
invariant-loop-group l =
    rising l.last (map (from_be_bytes w32) (drop (l.group-index * 4) l.numbers)) ≡ rising 0 (map (from_be_bytes w32) l.numbers)
