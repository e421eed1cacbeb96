-- `controller::step::make_propose` meets its contract: what the counts of values propose, and all other fields as they were, are the state of `make_propose`.
use Rattle.std.proofs.Common.{arith}
use Rattle.controller.specs.Laws.Work.Ready.{ready_few}
use Rattle.controller.specs.Laws.Work.Step.{ready_short_round, counted, propose_made}
use Rattle.controller.proofs.step.make_propose.Goals as goal

pub count_bits-counts-requires-clause-short : goal.count_bits-counts-requires-clause-short
count_bits-counts-requires-clause-short c = ready_short_round c.requires.0 0 (omega arith) c.requires.1

pub proposal-state-requires : goal.proposal-state-requires
proposal-state-requires c = omega (arith, ready_few c.requires.0)

pub returns : goal.returns
returns c =
    propose_made c.requires.0 _ _ c.requires.1 (counted c.requires.0 0 c.requires.1 c.count_bits-counts.ensures) c.proposal-state.ensures
