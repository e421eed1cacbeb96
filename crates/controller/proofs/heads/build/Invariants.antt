-- `crate::heads::build` meets its contract: the nodes from i on are made, each from two nodes behind it, which stay as they are.
use Rattle.std.proofs.Common.{ℕ, ◌<◌, ◌≡◌, ◌≤◌, get_or}
use Rattle.controller.specs.Laws.Work.Tree.{Node}
use Rattle.controller.proofs.heads.build.Given as goal

abbrev pub invariant-loop-i : goal.invariant-loop-i
invariant-loop-i l = record {
  made : (p : ℕ) → l.i ≤ p → p < l.len → Node l.tree p;
  leaves : (p : ℕ) → l.len ≤ p → get_or l.tree p 0 ≡ get_or l.initial.tree p 0;
}
