-- The next entry that is heard, in front of entry i: it is in the directory, and what is in hand comes from those behind it.
use Rattle.std.specs.Prelude.{ℕ, ◌+◌, ◌-◌, ◌<◌, List, ◌≡◌}
use Rattle.std.proofs.Common.{subst, arith}
use Rattle.wire.specs.Tray.{entry_count}
use Rattle.wire.specs.declared.frame.Numbers.{Numbers}
use Rattle.controller.specs.Work.Received.{HearsFrom}

module _ {own : ℕ} {b l : List ℕ} {list : Numbers} {f : List ℕ} {i : ℕ} (so_far : HearsFrom own b l list f i) (left : 0 < i) where
  pub counted : i - 1 < entry_count b
  counted = omega (arith, so_far.inside)

  pub behind : HearsFrom own b l list f (i - 1 + 1)
  behind = let back : i ≡ i - 1 + 1 = omega arith in subst (HearsFrom own b l list f) back so_far
