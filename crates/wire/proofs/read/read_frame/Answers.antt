-- `wire::read::read_frame` meets its contract: it gives the cause of `check_frame`, and where there is none the bytes have a header with a bit.
use Rattle.std.proofs.Common.{arith, sym}
use Rattle.std.proofs.lemmas.Result.{err_from_is_err_and}
use Rattle.wire.specs.Laws.Frame.{frame_header_lem, frame_reads, void_reads}
use Rattle.wire.proofs.read.read_frame.Goals as goal

pub bounds-bytes-5 : goal.bounds-bytes-5
bounds-bytes-5 c = omega (arith, frame_header_lem _ _ (sym c.in_ok-check_frame.ensures))

pub returns : goal.returns
returns c = rw (c.said_by-said.ensures, c.kind_of.ensures) (frame_reads _ _ (sym c.in_ok-check_frame.ensures))

pub returns-in_err-check_frame : goal.returns-in_err-check_frame
returns-in_err-check_frame c =
    let p = err_from_is_err_and c.from_residual.result c.from_residual.ensures.1 in
    rw (p.1, p.2) (void_reads _ _ _ c.in_err-check_frame.ensures)
