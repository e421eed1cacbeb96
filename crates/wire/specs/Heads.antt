-- Words for read.rt: the eight bytes of a header as one number, so that one comparison tells what a frame without a list says. They are no part of the
-- papers: the laws tie them to `content`.
--     Short t         a round whose frames say a bit and list nothing: values and proposals
--     head_at s at    the number in the eight bytes of s from at on
--     head_from s at  the same; 0 where s ends before them
--     head_of t b     the header of a frame of round t that says the bit b and lists nothing
use Rattle.std.specs.Prelude.{ℕ, ◌+◌, ◌*◌, ◌≤◌, true, cond, List, ◌≡◌, leb, length}
use Rattle.wire.specs.Limits.{frame_header}
use Rattle.wire.specs.Words.{word_at}
use Rattle.wire.specs.Frame.{kind_of, round_fits}

pub record Short (t : ℕ) : Type 0 where
  pub fits : round_fits t ≡ true
  pub least : 3 ≤ kind_of t
  pub most : kind_of t ≤ 4

abbrev pub head_at : List ℕ → ℕ → ℕ
head_at s at = word_at s at * 4294967296 + word_at s (at + 4)

abbrev pub head_from : List ℕ → ℕ → ℕ
head_from s at = cond (leb (at + frame_header) (length s)) (head_at s at) 0

abbrev pub head_of : ℕ → ℕ → ℕ
head_of t b = t * 4294967296 + kind_of t * 16777216 + b * 65536
