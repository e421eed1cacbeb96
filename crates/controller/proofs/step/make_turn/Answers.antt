-- `controller::step::make_turn` meets its contract: the turn's bit, strong and said, and all other fields as they were, are the state of `make_turn`.
use Rattle.std.proofs.Common.{arith}
use Rattle.controller.specs.Laws.State.{rules_give}
use Rattle.controller.specs.Laws.Work.Ready.{ready_few, ready_size}
use Rattle.controller.specs.Laws.Work.Step.{ready_short_round, counted, turn_made}
use Rattle.controller.proofs.step.make_turn.Goals as goal

pub count_bits-requires-clause-short : goal.count_bits-requires-clause-short
count_bits-requires-clause-short c = ready_short_round c.requires.0 1 (omega arith) c.requires.1

pub spoken-turn-requires : goal.spoken-turn-requires
spoken-turn-requires c = omega (arith, ready_few c.requires.0, (rules_give _ c.requires.0.sound).bit)

pub returns : goal.returns
returns c =
    let ready = c.requires.0 in
    let proposals = counted ready 1 c.requires.1 c.count_bits.ensures in
    turn_made ready _ c.requires.1 (c.spoken-turn.ensures _ ready.active proposals (ready_size ready))
