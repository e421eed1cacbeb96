-- `controller::received::hear` meets its contract: where no entry is left, all were heard before; else those left are heard.
use Rattle.std.proofs.Common.{subst}
use Rattle.controller.specs.Laws.Work.Hears.{hears_all}
use Rattle.controller.specs.Work.Received.{HearsFrom}
use Rattle.controller.proofs.received.hear.Goals as goal

pub returns-then-left-eq0 : goal.returns-then-left-eq0
returns-then-left-eq0 c = hears_all c.args.tray.packed (subst (HearsFrom _ _ _ _ _) c.if-left-eq0.true c.note_known-left.ensures)
