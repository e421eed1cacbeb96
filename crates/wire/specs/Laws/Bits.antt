-- Laws of bits: many numbers are looked at together, joined by `|`.
use Rattle.std.specs.Prelude.{ℕ, ◌&&◌, ◌≡◌, eqb}
use Rattle.std.proofs.Math.Bool.{and-false}
use Rattle.std.proofs.Math.Decide.{ℕ_discrete}
use Rattle.std.proofs.Common.{arith, eq-eqb, ne_eqb}
use Rattle.std.specs.Int.Bits.{bit_or, or_add_and}
use Rattle.std.proofs.lemmas.Nat.{and_le_l, and_le_r}

-- joined they are 0 if both are
pub or_zero : (a b : ℕ) → eqb (bit_or a b) 0 ≡ (eqb a 0 && eqb b 0)
or_zero a b =
    let sum = or_add_and a b in
    let least = and_le_l a b in
    let less = and_le_r a b in
    elim (ℕ_discrete a 0) [
      | yes e ↦ elim (ℕ_discrete b 0) [
        | yes f ↦ rw (eq-eqb (bit_or a b) 0 (omega arith), eq-eqb a 0 e, eq-eqb b 0 f)
        | no f ↦ rw (ne_eqb (bit_or a b) 0 (λ z. f (omega arith)), ne_eqb b 0 f, and-false (eqb a 0))
      ]
      | no e ↦ rw (ne_eqb (bit_or a b) 0 (λ z. e (omega arith)), ne_eqb a 0 e)
    ]
