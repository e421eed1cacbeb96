-- `controller::own::count_list` meets its contract: after j turns so many of the first j lists are the frame's.
use Rattle.controller.specs.Work.Own.{SharesList}
use Rattle.controller.proofs.own.count_list.Given as goal

abbrev pub invariant-loop-note : goal.invariant-loop-note
invariant-loop-note l = SharesList l.note-index l.frame l.tray l.notes l.count
