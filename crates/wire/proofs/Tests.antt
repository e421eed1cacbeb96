-- Tests and the facts behind them.
--     tests         the laws that give a test its value from the branch that was taken, as one set for `search`
--     leb_same      two tests of an order are equal if each order goes with the other
--     both_made, one_made      what a chain `a && b` comes to: with b where a was passed, with a alone where it was not
use Rattle.std.proofs.Common.{ℕ, ◌≤◌, ◌<◌, Bool, true, false, ◌&&◌, ◌≡◌, refl, sym, ◌∙◌, lt-ltb, le-ltb, le-leb, eq-eqb, ne_eqb, leb-true, leb-false, leb}
use Rattle.std.proofs.lemmas.Bool.{lt-leb}

pub ruleset tests = (lt-ltb, le-ltb, le-leb, lt-leb, eq-eqb, ne_eqb)

pub leb_same : (a b c d : ℕ) → (a ≤ b → c ≤ d) → (b < a → d < c) → leb a b ≡ leb c d
leb_same a b c d f g = go (leb a b) refl
  where
    go : (t : Bool) → leb a b ≡ t → t ≡ leb c d
    go true e = sym (le-leb c d (f (leb-true a b e)))
    go false e = sym (lt-leb c d (g (leb-false a b e)))

pub both_made : (a b r : Bool) → a ≡ true → r ≡ b → r ≡ (a && b)
both_made a b r h e = e ∙ rw h

pub one_made : (a b r : Bool) → a ≡ false → r ≡ a → r ≡ (a && b)
one_made a b r h e = e ∙ rw h
