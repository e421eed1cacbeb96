-- `wire::frame::rise` meets its contract: the numbers passed rose and what is left rises from above the last of them exactly if the whole list rises.
use Rattle.std.proofs.Math.Bool.{◌&&◌}
use Rattle.std.proofs.Math.Path.{◌≡◌}
use Rattle.std.specs.Prelude.{drop}
use Rattle.wire.specs.Numbers.{rising}
use Rattle.wire.proofs.frame.rise.Given as goal

abbrev pub invariant-loop-number : goal.invariant-loop-number
invariant-loop-number l = (l.ok && rising l.last (drop l.number-index l.numbers)) ≡ rising 0 l.numbers
