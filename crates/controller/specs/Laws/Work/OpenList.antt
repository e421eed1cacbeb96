-- Laws of the words for the open lists.
use Rattle.std.specs.Prelude.{ℕ, List, [], ◌∷◌}
use Rattle.std.specs.Coded.{Unit-prop}
use Rattle.std.proofs.Props.{props}
use Rattle.controller.specs.Lists.{Rising}
use Rattle.controller.specs.Work.OpenList.{Opens}

rising_prop : (l : List ℕ) → IsProp (Rising l)
rising_prop [] = Unit-prop
rising_prop (x ∷ l) = hlevel (props, rising_prop l)

-- what is known of the open lists is known in one way only, so a type can have it as a field
pub opens_prop : {own b s n w : List ℕ} {m : ℕ} → IsProp (Opens own b s n w m)
opens_prop = hlevel (props, rising_prop)
