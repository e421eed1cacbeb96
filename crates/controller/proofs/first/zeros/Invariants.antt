-- `controller::first::zeros` meets its contract: after some turns the total is the count over the places passed.
use Rattle.std.proofs.Common.{◌≡◌, take}
use Rattle.controller.specs.Lists.{count_if}
use Rattle.controller.specs.Work.First.{is_zero}
use Rattle.controller.proofs.first.zeros.Given as goal

abbrev pub invariant-loop-round : goal.invariant-loop-round
invariant-loop-round l = l.zeros ≡ count_if is_zero (take l.round-index l.rounds)
