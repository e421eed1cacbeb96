-- `crate::tally::Settled::settle_all` meets its contract: each turn settles the least number left, so that all are settled when the lists have ended.
use Rattle.std.specs.Prelude.{◌-◌, ◌/◌}
use Rattle.wire.specs.Numbers.{listed}
use Rattle.controller.specs.Laws.Work.Walk.{Walking}
use Rattle.controller.specs.Work.OpenList.{end_mark}
use Rattle.controller.specs.Work.Heads.{slots}
use Rattle.controller.proofs.tally.Settled.settle_all.Given as goal

abbrev pub invariant-loop-key : goal.invariant-loop-key
invariant-loop-key l = Walking l.opened l.h (listed l.initial.self.candidates) l.heads l.self l.key

abbrev pub decreases-loop-key : goal.decreases-loop-key
decreases-loop-key l = end_mark - l.key / slots
