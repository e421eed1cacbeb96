-- `wire::found::same_frames` meets its contract: the bytes decide where both notes have a place and both places lie in the tray, and else the answer is no.
use Rattle.std.proofs.Common.{arith}
use Rattle.std.proofs.lemmas.Grind.{common_steps}
use Rattle.wire.specs.Tray.{part}
use Rattle.wire.proofs.found.same_frames.Goals as goal

pub returns-in-Some-Some : goal.returns-in-Some-Some
unfolding part
returns-in-Some-Some c = grind (arith, common_steps)
