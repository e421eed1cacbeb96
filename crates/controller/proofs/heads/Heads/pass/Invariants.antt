-- `crate::heads::Heads::pass` meets its contract: the laws say what moving a list on and making a node anew keep, and that no head is left below the next key.
use Rattle.std.proofs.Common.{ℕ, ◌*◌, ◌+◌, ◌/◌}
use Rattle.controller.specs.Laws.Work.Heads.{waiting, ClimbingIn}
use Rattle.controller.specs.Work.Heads.{slots}
use Rattle.controller.proofs.heads.Heads.pass.Given as goal

abbrev pub invariant-loop-i : goal.invariant-loop-i
invariant-loop-i l = ClimbingIn l.opened (l.first / slots) l.self l.count l.key l.i

abbrev pub decreases-loop-i : goal.decreases-loop-i
decreases-loop-i l = 256 * waiting (λ (k : ℕ). 1) l.self.tree l.opened.len (l.first / slots) + l.i
