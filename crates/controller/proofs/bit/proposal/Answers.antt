-- `controller::bit::proposal` meets its contract: each branch gives the tests of `proposed_from` their values.
use Rattle.std.proofs.Common.{le-leb}
use Rattle.std.proofs.lemmas.Bool.{lt-leb}
use Rattle.controller.specs.Work.Bit.{proposed_from}
use Rattle.controller.specs.Thirds.{two_thirds}
use Rattle.controller.proofs.bit.proposal.Goals as goal

pub returns-then-h-counts : goal.returns-then-h-counts
unfolding proposed_from two_thirds
returns-then-h-counts c = rw (le-leb _ _ c.if-h-counts.true)

pub returns-then-h-counts-2 : goal.returns-then-h-counts-2
unfolding proposed_from two_thirds
returns-then-h-counts-2 c = rw (lt-leb _ _ c.if-h-counts.false, le-leb _ _ c.if-h-counts-2.true)

pub returns-else-h-counts-2 : goal.returns-else-h-counts-2
unfolding proposed_from two_thirds
returns-else-h-counts-2 c = rw (lt-leb _ _ c.if-h-counts.false, lt-leb _ _ c.if-h-counts-2.false)
