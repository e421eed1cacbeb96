-- `wire::write::write_frame` meets its contract: the header's stores and the numbers' stores are the frame's bytes in front of what stood behind
-- them, and a refusal stores nothing.
use Rattle.std.proofs.Common.{sym, ◌∙◌, rules, arith, le-leb}
use Rattle.std.specs.Prelude.{true, ◌≡◌, length}
use Rattle.wire.specs.Frame.{Content, kind_said, bit_said, writable, write_refusal, header_bytes, frame_bytes}
use Rattle.wire.specs.Laws.Frame.{writable_count, frame_length}
use Rattle.wire.specs.Laws.Stores.{sets_start}
use Rattle.wire.specs.Words.{words_bytes}
use Rattle.wire.proofs.write.write_frame.Goals as goal

pub returns-then-not-writable : goal.returns-then-not-writable
unfolding write_refusal
returns-then-not-writable c = search rules

pub returns-then-out-lt-MAX_FRAME : goal.returns-then-out-lt-MAX_FRAME
unfolding write_refusal
returns-then-out-lt-MAX_FRAME c = search rules

pub put_header-requires-clause-few : goal.put_header-requires-clause-few
put_header-requires-clause-few c = writable_count _ (sym c.writable.ensures ∙ c.if-not-writable.false)

pub put_numbers-requires : goal.put_numbers-requires
put_numbers-requires c = omega (arith, writable_count _ (sym c.writable.ensures ∙ c.if-not-writable.false), c.put_header.auto.out)

pub returns : goal.returns
unfolding write_refusal frame_bytes
returns c =
    let f : Content = record { round = c.args.frame.round; said = c.args.frame.said; numbers = c.args.numbers.now } in
    let fits : writable f ≡ true = sym c.writable.ensures ∙ c.if-not-writable.false in
    let room = le-leb _ _ c.if-out-lt-MAX_FRAME.false in
    let many = frame_length f in
    let few = writable_count f fits in
    let header = header_bytes f.round (kind_said f.said) (bit_said f.said) (length f.numbers) in
    let bytes = sets_start c.args.out.now header (words_bytes f.numbers) (omega arith) in
    record {
      refusal = rw (fits, room);
      written = rw (fits, room) (sym many);
      output = rw (fits, room) (c.put_numbers.ensures ∙ rw c.put_header.ensures bytes);
    }
