-- `controller::calls::work` meets its contract: an early refusal is the tray's; else `work_checked` has the tests that are left, of the same bytes.
use Rattle.std.proofs.Common.{sym, refl}
use Rattle.std.proofs.lemmas.Result.{err_from_is_err_and}
use Rattle.controller.specs.Laws.Work.Calls.{early_refused, early_passed}
use Rattle.controller.proofs.Promises.{refusal_some, promise_left}
use Rattle.controller.proofs.calls.work.Goals as goal

pub work_checked-requires : goal.work_checked-requires
work_checked-requires c = rw c.in_ok-packed.ensures.tray (early_passed _ _ _ (sym c.in_ok-packed.ensures.number))

pub returns-in_err-packed : goal.returns-in_err-packed
returns-in_err-packed c =
    let e = c.in_err-packed.field-0.0 in
    let p = err_from_is_err_and c.from_residual.result c.from_residual.ensures.1 in
    rw (p.1, p.2) (promise_left e _ (early_refused _ _ _ _ c.in_err-packed.ensures.number (refusal_some e)) refl)

pub returns : goal.returns
returns c = rw c.in_ok-packed.ensures.tray at c.work_checked.ensures
