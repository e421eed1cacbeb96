-- `controller::opened::same_list` meets its contract: while no two numbers differed, what was passed is the same on both sides; at the end that is all.
use Rattle.std.proofs.Common.{ℕ, ◌*◌, ◌+◌, ◌<◌, ◌≡◌, get_or}
use Rattle.wire.specs.Words.{word_at}
use Rattle.controller.proofs.opened.same_list.Given as goal

abbrev pub invariant-loop-i : goal.invariant-loop-i
invariant-loop-i l = (k : ℕ) → k < l.i → word_at l.tray (l.start + 4 * k) ≡ get_or l.own k 0
