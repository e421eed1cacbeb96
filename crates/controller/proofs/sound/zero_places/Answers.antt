-- `controller::sound::zero_places` meets its contract: after some turns the total is the count over the places passed.
use Rattle.std.proofs.Common.{arith, ap, take_all, ◌∙◌, ◌+◌}
use Rattle.controller.specs.Laws.Work.First.{zeros_further, zeros_few}
use Rattle.controller.specs.Lists.{count_if}
use Rattle.controller.specs.Work.First.{is_zero}
use Rattle.controller.proofs.sound.zero_places.Goals as goal

pub overflow_add-zeros : goal.overflow_add-zeros
overflow_add-zeros c =
    let i = c.loop-number.number-index in
    let total = zeros_further c.args.at.now i _ (omega arith) c.loop-number.invariant in
    omega (arith, total, zeros_few c.args.at.now (i + 1) (omega arith))

pub loop-number-preserved : goal.loop-number-preserved
loop-number-preserved c = zeros_further c.args.at.now _ _ (omega arith) c.loop-number.invariant

pub returns : goal.returns
returns c = c.loop-number.invariant ∙ ap (count_if is_zero) (take_all c.loop-number.number-index c.args.at.now (omega arith))
