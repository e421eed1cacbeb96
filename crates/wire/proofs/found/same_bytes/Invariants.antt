-- `wire::found::same_bytes` meets its contract: the blocks from i on are the same.
use Rattle.std.proofs.Common.{◌≡◌}
use Rattle.std.specs.Prelude.{drop}
use Rattle.wire.proofs.found.same_bytes.Given as goal

abbrev pub invariant-loop-i : goal.invariant-loop-i
invariant-loop-i l = drop l.i l.a_blocks ≡ drop l.i l.b_blocks
