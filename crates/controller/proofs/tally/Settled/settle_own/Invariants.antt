-- `crate::tally::Settled::settle_own` meets its contract: each turn settles the least number left of a rising list.
use Rattle.wire.specs.Numbers.{listed}
use Rattle.controller.specs.Laws.Work.Alone.{Passed}
use Rattle.controller.proofs.tally.Settled.settle_own.Given as goal

abbrev pub invariant-loop-number : goal.invariant-loop-number
invariant-loop-number l = Passed l.own l.count l.h (listed l.initial.self.candidates) l.number-index l.self
