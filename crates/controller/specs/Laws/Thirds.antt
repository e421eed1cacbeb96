-- Laws of the two thresholds, for every number heard.
use Rattle.std.specs.Prelude.{ℕ, ◌+◌, ◌*◌, ◌/◌, ◌≤◌, true, ◌↔◌, ◌≡◌}
use Rattle.std.proofs.Common.{leb-true, le-leb, arith}
use Rattle.controller.specs.Thirds.{third, two_thirds}

-- a test in hand says what the paper says
pub third_is : (c h : ℕ) → (third c h ≡ true) ↔ (h ≤ 3 * c)
unfolding third
third_is c h = (leb-true h (3 * c), le-leb h (3 * c))

pub two_thirds_is : (c h : ℕ) → (two_thirds c h ≡ true) ↔ (2 * h ≤ 3 * c)
unfolding two_thirds
two_thirds_is c h = (leb-true (2 * h) (3 * c), le-leb (2 * h) (3 * c))

-- in whole numbers: h / 3 rounded up, 2h / 3 rounded up
pub third_least : (c h : ℕ) → (third c h ≡ true) ↔ ((h + 2) / 3 ≤ c)
third_least c h = (λ t. omega (arith, (third_is c h).0 t), λ l. (third_is c h).1 (omega arith))

pub two_thirds_least : (c h : ℕ) → (two_thirds c h ≡ true) ↔ ((2 * h + 2) / 3 ≤ c)
two_thirds_least c h = (λ t. omega (arith, (two_thirds_is c h).0 t), λ l. (two_thirds_is c h).1 (omega arith))

pub two_thirds_third : (c h : ℕ) → two_thirds c h ≡ true → third c h ≡ true
two_thirds_third c h two = (third_is c h).1 (omega (arith, (two_thirds_is c h).0 two))

-- two counts of different ones do not both reach two thirds
pub two_thirds_exclude : (c d h : ℕ) → 1 ≤ h → c + d ≤ h → two_thirds c h ≡ true → two_thirds d h ≡ true → ⊥
two_thirds_exclude c d h pos sum two other = omega (arith, (two_thirds_is c h).0 two, (two_thirds_is d h).0 other)
