-- `controller::step::step` meets its contract: the kind of the next round picks the bullet; where it is none of 2, 3, 4 it is 5, since no round but the first
-- has kind 1.
use Rattle.std.proofs.Common.{◌+◌, arith}
use Rattle.controller.specs.Laws.Rules.{kind_above}
use Rattle.controller.specs.Laws.State.{rules_give}
use Rattle.wire.specs.Laws.Frame.{kind_range}
use Rattle.controller.proofs.step.step.Goals as goal

pub make_turn-requires : goal.make_turn-requires
make_turn-requires c =
    let ready = c.requires.ready in
    let t = c.args.state.now.round + 1 in
    (ready, omega (arith, kind_above t, (kind_range t).1, (rules_give _ ready.sound).early), c.requires.early)
