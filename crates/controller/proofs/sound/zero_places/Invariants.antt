-- `controller::sound::zero_places` meets its contract: after some turns the total is the count over the places passed.
use Rattle.std.proofs.Common.{◌≡◌, take}
use Rattle.controller.specs.Lists.{count_if}
use Rattle.controller.specs.Work.First.{is_zero}
use Rattle.controller.proofs.sound.zero_places.Given as goal

abbrev pub invariant-loop-number : goal.invariant-loop-number
invariant-loop-number l = l.zeros ≡ count_if is_zero (take l.number-index l.at)
