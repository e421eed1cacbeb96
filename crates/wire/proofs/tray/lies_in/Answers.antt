-- `wire::tray::lies_in` meets its contract: a part that starts within the tray and is no longer than what is left lies in it.
use Rattle.std.proofs.Math.Path.{◌≡◌, ◌∙◌}
use Rattle.std.proofs.Common.{sym, arith, ℕ, ◌+◌, ◌-◌, ◌≤◌, ◌<◌}
use Rattle.std.proofs.lemmas.Bool.{lt-leb}
use Rattle.std.specs.Prelude.{leb}
use Rattle.wire.proofs.Tests.{leb_same}
use Rattle.wire.proofs.tray.lies_in.Goals as goal

lies : (o n k : ℕ) → o ≤ k → leb n (k - o) ≡ leb (o + n) k
lies o n k h = leb_same n (k - o) (o + n) k (λ l. omega arith) (λ l. omega arith)

past : (o n k : ℕ) → k < o → leb o k ≡ leb (o + n) k
past o n k h = lt-leb o k h ∙ sym (lt-leb (o + n) k (omega arith))

pub returns-then-offset-tray : goal.returns-then-offset-tray
returns-then-offset-tray c = lies _ _ _ c.if-offset-tray.true

pub returns-else-offset-tray : goal.returns-else-offset-tray
returns-else-offset-tray c = past _ _ _ c.if-offset-tray.false
