-- `controller::first::all_timely` meets its contract: the latest of the rounds passed is timely exactly if all of them are.
use Rattle.std.proofs.Common.{◌≡◌, leb, take}
use Rattle.controller.specs.Work.First.{timely}
use Rattle.controller.proofs.first.all_timely.Given as goal

abbrev pub invariant-loop-round : goal.invariant-loop-round
invariant-loop-round l = leb l.last 194 ≡ timely (take l.round-index l.rounds)
