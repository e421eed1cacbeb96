-- `controller::open_list::OpenLists::place_list` meets its contract: a list that is open is counted once more, and another is opened behind the open
-- ones; it rises, since what is read does, and so does the own list.
use Rattle.std.proofs.Common.{ℕ, get_or, arith}
use Rattle.controller.specs.Laws.Work.Opened.{sent_at, counted_adds, counted_again, counted_first, received_sound}
use Rattle.controller.specs.Laws.Work.Total.{total_has}
use Rattle.controller.specs.Work.OpenList.{sent_of}
use Rattle.controller.proofs.open_list.OpenLists.place_list.Goals as goal

pub overflow_add-self : goal.overflow_add-self
overflow_add-self c =
    let o = c.args.self.now in
    let place = c.in-Ok.place in
    record { fits = omega (arith, sent_at o.lists place, total_has (λ (i : ℕ). get_or (sent_of o.lists) i 0) o.len place c.in-Ok.ensures.0, c.requires.light) }

pub invariant_of-self : goal.invariant_of-self
invariant_of-self c = record { opens = (counted_again c.args.self.now c.requires.light c.in-Ok.place c.in-Ok.ensures.0).opens }

pub returns-in-Ok : goal.returns-in-Ok
returns-in-Ok c =
    rw c.in-Ok.ensures.1 (counted_adds (counted_again c.args.self.now c.requires.light c.in-Ok.place c.in-Ok.ensures.0) _)

pub invariant_of-self-in-Err : goal.invariant_of-self-in-Err
invariant_of-self-in-Err c =
    let o = c.args.self.now in
    let h = c.in-Err.ensures in
    record { opens = (counted_first o c.requires.light c.in-Err.list c.requires.free h.0 h.1 (received_sound o c.args.round c.args.note)).opens }

pub returns-in-Err : goal.returns-in-Err
returns-in-Err c =
    let o = c.args.self.now in
    let h = c.in-Err.ensures in
    counted_adds (counted_first o c.requires.light c.in-Err.list c.requires.free h.0 h.1 (received_sound o c.args.round c.args.note)) _
