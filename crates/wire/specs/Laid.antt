-- Words for write.rt: a frame's bytes by its round, its bit and its numbers. They are no part of the papers: the laws tie them to `frame_bytes`.
--     laid_bytes t b l                 the bytes of a frame of round t with the bit b and the numbers l, whether or not that is one
--     lays_in l n                      the numbers l are no more than a frame may list, and a buffer of n bytes has room for the longest frame
--     FrameLays t b l given r left     what `lay_frame` promises of its answer r and of the buffer, as it is given and as it is left
use Rattle.std.specs.Prelude.{ℕ, Bool, cond, ◌&&◌, List, ◌++◌, ◌≡◌, leb, length, drop}
use Rattle.wire.specs.Limits.{max_numbers, max_frame}
use Rattle.wire.specs.Words.{words_bytes}
use Rattle.wire.specs.Frame.{kind_of, header_bytes}

unfoldable pub laid_bytes : ℕ → ℕ → List ℕ → List ℕ
laid_bytes t b l = header_bytes t (kind_of t) b (length l) ++ words_bytes l

abbrev pub lays_in : List ℕ → ℕ → Bool
lays_in l n = leb max_frame n && leb (length l) max_numbers

pub record FrameLays (t b : ℕ) (l given : List ℕ) (r : ℕ) (left : List ℕ) : Type 0 where
  pub written : r ≡ cond (lays_in l (length given)) (length (laid_bytes t b l)) 0
  pub output : left ≡ cond (lays_in l (length given)) (laid_bytes t b l ++ drop (length (laid_bytes t b l)) given) given
