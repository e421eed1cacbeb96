-- The cases of an `else` on what is found under a number.
--     no_place P     what holds of `Nothing` and of `Several` holds of each answer that has no place
use Rattle.std.specs.Prelude.{ℕ, ◌≡◌, refl}
use Rattle.wire.specs.declared.found.Found.{Found}
use Rattle.wire.specs.declared.found.Found.TheVariants.{At, Nothing, Several}

pub no_place : (P : Found → Type 0) → P Nothing → P Several → (f : Found) → ((o n : ℕ) → f ≡ At o n → ⊥) → P f
no_place P a b (At o n) h = absurd (h o n refl)
no_place P a b Nothing h = a
no_place P a b Several h = b
