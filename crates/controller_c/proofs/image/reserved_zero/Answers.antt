-- `controller_c::image::reserved_zero` meets its contract: the bytes that are left are 0, and those passed, joined, are, exactly if all are.
use Rattle.std.proofs.Math.Bool.{◌&&◌, and_assoc, and-true}
use Rattle.std.proofs.Math.Path.{◌≡◌, ◌∙◌}
use Rattle.std.specs.Prelude.{eqb, length, drop}
use Rattle.std.proofs.Common.{sym, ap, add-one, arith, drop-cons, length-drop, ℕ, ◌+◌, ◌-◌, ◌≤◌, ◌<◌, List, ◌∷◌}
use Rattle.std.specs.Int.Bits.{bit_or}
use Rattle.std.proofs.Math.ListN.{get_or, drop_of_length-le}
use Rattle.std.proofs.Math.Seq.{take_all}
use Rattle.wire.specs.Laws.Bits.{or_zero}
use Rattle.controller_c.specs.Image.{image_bytes, reserved_at, zeros}
use Rattle.controller_c.proofs.image.reserved_zero.Goals as goal

module _ (b : List ℕ) (i all : ℕ) where
  turn : i < length b → (eqb (bit_or all (get_or b i 0)) 0 && zeros (drop (i + 1) b)) ≡ (eqb all 0 && zeros (drop i b))
  turn h =
      let split : drop i b ≡ get_or b i 0 ∷ drop (i + 1) b = rw add-one (drop-cons b i 0 h) in
      rw (split, or_zero all (get_or b i 0)) (and_assoc (eqb all 0) (eqb (get_or b i 0) 0) (zeros (drop (i + 1) b)))

  done : length b ≤ i → (eqb all 0 && zeros (drop i b)) ≡ eqb all 0
  done h = rw (drop_of_length-le b {i = i} h) (and-true (eqb all 0))

pub loop-byte-preserved : goal.loop-byte-preserved
loop-byte-preserved c = turn _ c.loop-byte.byte-index c.loop-byte.all c.loop-byte-test.true ∙ c.loop-byte.invariant

pub returns : goal.returns
returns c =
    let rest = drop reserved_at c.args.image.now in
    let all : length rest ≤ image_bytes - reserved_at = omega (arith, length-drop reserved_at c.args.image.now) in
    sym (done _ c.loop-byte.byte-index c.loop-byte.all c.loop-byte-test.false)
    ∙ c.loop-byte.invariant
    ∙ ap zeros (take_all (image_bytes - reserved_at) rest all)
