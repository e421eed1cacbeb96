-- `crate::tally::grow` meets its contract: the lists made along the received ones are those of the rules; if one is too long, the state keeps its own.
use Rattle.controller.specs.Laws.Work.Grow.{sorted_grows, crowded_keeps}
use Rattle.controller.proofs.tally.grow.Goals as goal

pub returns-in_err-tally : goal.returns-in_err-tally
returns-in_err-tally c = rw c.from_residual.ensures (crowded_keeps _ _ c.requires.sound c.tally.new.settled c.in_err-tally.ensures)

pub returns : goal.returns
returns c = sorted_grows _ _ c.requires.sound c.tally.new.settled c.in_ok-tally.ensures
