-- `session::read_full` meets its contract: what has been read lies within the bytes.
use Rattle.std.proofs.Common.{◌≤◌, length}
use Rattle.session.proofs.read_full.Given as goal

abbrev pub invariant-loop : goal.invariant-loop
invariant-loop g l = l.done ≤ length l.bytes
