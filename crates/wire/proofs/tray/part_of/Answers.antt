-- `wire::tray::part_of` meets its contract: the part is the one that `part` names, or no bytes.
use Rattle.std.proofs.Common.{sym}
use Rattle.std.proofs.Math.Path.{◌∙◌}
use Rattle.std.proofs.Math.Nat.{add-sub_cancel_left}
use Rattle.wire.specs.Tray.{part}
use Rattle.wire.proofs.tray.part_of.Goals as goal

pub returns-then-lies_in : goal.returns-then-lies_in
unfolding part
returns-then-lies_in c = rw (sym c.lies_in.ensures ∙ c.if-lies_in.true, add-sub_cancel_left)

pub returns-else-lies_in : goal.returns-else-lies_in
unfolding part
returns-else-lies_in c = rw (sym c.lies_in.ensures ∙ c.if-lies_in.false)
