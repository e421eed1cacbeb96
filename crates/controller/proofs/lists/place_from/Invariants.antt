-- `controller::lists::place_from` meets its contract: the place is never behind where the search stands, and is there at the first number not below x.
use Rattle.std.proofs.Common.{◌≤◌}
use Rattle.wire.specs.Numbers.{listed}
use Rattle.controller.specs.Work.Lists.{below}
use Rattle.controller.proofs.lists.place_from.Given as goal

abbrev pub invariant-loop-i : goal.invariant-loop-i
invariant-loop-i l = l.i ≤ below l.x (listed l.list)
