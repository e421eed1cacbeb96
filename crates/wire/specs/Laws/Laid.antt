-- Laws of frames that are laid out by their round, bit and numbers.
--     laid_length       how many bytes they are
--     laid_content      where the kind is the round's, they are the bytes of the content
--     lays_written      so content that is allowed is written, where there is room
--     lays_inside       what is written lies in the buffer
use Rattle.std.specs.Prelude.{ℕ, ◌+◌, ◌*◌, ◌≤◌, Bool, true, false, cond, ◌&&◌, List, ◌++◌, ◌≡◌, refl, leb, length, drop}
use Rattle.std.proofs.Common.{◌∙◌, arith, le-leb, leb-true}
use Rattle.wire.specs.Limits.{frame_header, number_width, max_numbers, max_frame}
use Rattle.wire.specs.Frame.{kind_of, kind_said, bit_said, Content, writable, frame_bytes}
use Rattle.wire.specs.Laid.{laid_bytes, FrameLays}
use Rattle.wire.specs.Laws.Frame.{writable_gives, writable_count, words_bytes_length}

pub laid_length : (t b : ℕ) (l : List ℕ) → length (laid_bytes t b l) ≡ frame_header + number_width * length l
unfolding laid_bytes
laid_length t b l = let e = words_bytes_length l in omega arith

pub laid_content : (c : Content) → kind_said c.said ≡ kind_of c.round → laid_bytes c.round (bit_said c.said) c.numbers ≡ frame_bytes c
unfolding laid_bytes frame_bytes
laid_content c kind = rw kind

module _ (given : List ℕ) (r : ℕ) (left : List ℕ) where
  pub lays_written : (c : Content) (b : ℕ) (l : List ℕ) → writable c ≡ true → b ≡ bit_said c.said → l ≡ c.numbers → max_frame ≤ length given
      → FrameLays c.round b l given r left → (r ≡ length (frame_bytes c)) × (left ≡ frame_bytes c ++ drop (length (frame_bytes c)) given)
  lays_written c b l allowed bit numbers room lays =
      let bytes = laid_content c (writable_gives c allowed).kind in
      let roomy = le-leb max_frame (length given) room in
      let few = le-leb (length c.numbers) max_numbers (writable_count c allowed) in
      (lays.written ∙ rw (bit, numbers, roomy, few, bytes), lays.output ∙ rw (bit, numbers, roomy, few, bytes))

  pub lays_inside : (t b : ℕ) (l : List ℕ) → FrameLays t b l given r left → r ≤ length given
  lays_inside t b l lays = pick (leb max_frame (length given)) (leb (length l) max_numbers) refl refl lays.written
    where
      pick : (x y : Bool) → leb max_frame (length given) ≡ x → leb (length l) max_numbers ≡ y → r ≡ cond (x && y) (length (laid_bytes t b l)) 0
          → r ≤ length given
      pick true true e f n = omega (arith, n, laid_length t b l, leb-true max_frame (length given) e, leb-true (length l) max_numbers f)
      pick true false e f n = omega arith
      pick false y e f n = omega arith
