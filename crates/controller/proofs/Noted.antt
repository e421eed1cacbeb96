-- A note that is of one frame is not that of none, so what is read under it is read from that frame.
use Rattle.std.specs.Prelude.{ℕ, Bool, true, false, cond, ◌≡◌, refl, eqb}
use Rattle.std.proofs.Common.{true≢false, sym, ap, ◌∙◌}
use Rattle.wire.specs.Notes.{no_frame, found_by}
use Rattle.wire.specs.declared.found.Found.{Found}
use Rattle.wire.specs.declared.found.Found.TheVariants.{At, Nothing, Several}

abbrev some : Found → Bool
some (At o n) = true
some Nothing = false
some Several = true

-- d stands for a note of none, and `read` reads what is found
pub read_at : {A : Type 0} (d : A) (read : Found → A) (k o n : ℕ) → At o n ≡ found_by k → cond (eqb k no_frame) d (read (found_by k)) ≡ read (At o n)
read_at {A} d read k o n found = pick (eqb k no_frame) refl
  where
    pick : (x : Bool) → eqb k no_frame ≡ x → cond x d (read (found_by k)) ≡ read (At o n)
    pick true e = absurd (true≢false (ap some found ∙ rw e))
    pick false e = ap read (sym found)
