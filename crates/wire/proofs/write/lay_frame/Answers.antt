-- `wire::write::lay_frame` meets its contract: the header's stores and the numbers' stores are the frame's bytes in front of what stood behind them.
use Rattle.std.proofs.Math.Path.{◌∙◌}
use Rattle.std.proofs.Common.{sym, arith, le-leb}
use Rattle.std.specs.Prelude.{length}
use Rattle.wire.specs.Frame.{kind_of, header_bytes}
use Rattle.wire.specs.Laid.{laid_bytes}
use Rattle.wire.specs.Laws.Laid.{laid_length}
use Rattle.wire.specs.Laws.Stores.{sets_start}
use Rattle.wire.specs.Words.{words_bytes}
use Rattle.wire.proofs.write.lay_frame.Goals as goal

pub returns : goal.returns
unfolding laid_bytes
returns c =
    let a = c.args in
    let room = le-leb _ _ c.if-out-lt-MAX_FRAME.false in
    let few = le-leb _ _ c.if-numbers-gt-MAX_NUMBERS.false in
    let many = laid_length a.round a.bit a.numbers.now in
    let bytes = sets_start a.out.now (header_bytes a.round (kind_of a.round) a.bit (length a.numbers.now)) (words_bytes a.numbers.now) (omega arith) in
    record {
      written = rw (room, few) (sym many);
      output = rw (room, few) (c.put_numbers.ensures ∙ rw (c.lay_header.ensures, c.kind_of.ensures) bytes);
    }
