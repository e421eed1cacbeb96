-- `controller::own::count_list` meets its contract: after j turns so many of the first j lists are the frame's.
use Rattle.std.proofs.Common.{List, ℕ, arith, get_or}
use Rattle.wire.specs.Frame.{content}
use Rattle.controller.specs.Laws.Work.Own.{agrees_more, agrees_same}
use Rattle.controller.specs.Received.{list_in}
use Rattle.controller.specs.Work.Opened.{list_under}
use Rattle.controller.proofs.own.count_list.Goals.{then-sent_list, else-sent_list}
use Rattle.controller.proofs.own.count_list.Goals as goal

pub loop-note-preserved : goal.loop-note-preserved
loop-note-preserved c =
    let a = c.args in
    let own : ℕ → List ℕ = λ round. list_in (content a.frame.now round) in
    let lists : ℕ → ℕ → List ℕ = λ round j. list_under round (own round) a.tray.now (get_or a.notes.now j 0) in
    let before = c.loop-note.invariant in
    elim c.if-sent_list.branch [
      | then-sent_list w ↦ rw w.count-is (record {
        few = omega arith;
        agrees = λ round. agrees_more (lists round) (own round) (before.agrees round) (c.sent_list.ensures round w.if-sent_list.true);
      })
      | else-sent_list w ↦ rw w.count-is (record { few = omega arith; agrees = λ round. agrees_same (lists round) (own round) (before.agrees round) })
    ]
