-- `controller::opened::open_lists` meets its contract: the lists of the notes gone through are open, and the open ones count each number as those do.
use Rattle.controller.specs.Laws.Work.Opened.{Opening}
use Rattle.controller.proofs.opened.open_lists.Given as goal

abbrev pub invariant-loop-note : goal.invariant-loop-note
invariant-loop-note l = Opening l.state l.noted.tray.now l.noted.notes l.opened l.last l.slot l.note-index
