-- `controller::first::zeros` meets its contract: after some turns the total is the count over the places passed.
use Rattle.std.proofs.Common.{arith, ap, take_all, ◌∙◌, ◌+◌}
use Rattle.controller.specs.Laws.Work.First.{zeros_further, zeros_few}
use Rattle.controller.specs.Lists.{count_if}
use Rattle.controller.specs.Work.First.{is_zero}
use Rattle.controller.proofs.first.zeros.Goals as goal

pub overflow_add-zeros : goal.overflow_add-zeros
overflow_add-zeros c =
    let i = c.loop-round.round-index in
    let total = zeros_further c.args.rounds.now i _ c.loop-round-test.true c.loop-round.invariant in
    omega (arith, total, zeros_few c.args.rounds.now (i + 1) (omega arith))

pub loop-round-preserved : goal.loop-round-preserved
loop-round-preserved c = zeros_further c.args.rounds.now _ _ c.loop-round-test.true c.loop-round.invariant

pub returns : goal.returns
returns c = c.loop-round.invariant ∙ ap (count_if is_zero) (take_all _ c.args.rounds.now c.loop-round-test.false)
