-- `controller::opened::open_lists` meets its contract: the lists of the notes gone through are open, and the open ones count each number as those do.
use Rattle.std.proofs.Common.{List, ℕ, ◌≡◌, ◌<◌, ◌⊎◌, length, get_or, take, get_or-take, length-take, inl, inr, refl, arith}
use Rattle.controller.specs.Laws.Work.Opened.{opening_start, opening_placeable, opening_more}
use Rattle.controller.specs.Laws.Work.Ready.{ready_few}
use Rattle.controller.proofs.opened.open_lists.Goals.{then-note-ne-NO_FRAME, else-note-ne-NO_FRAME}
use Rattle.controller.proofs.opened.open_lists.Goals as goal

inside : {h j : ℕ} (notes : List ℕ) → j < length (take h notes) → j < h
inside {h} notes low = omega (arith, length-take h notes)

pub shared_ref_as_front-note-items : goal.shared_ref_as_front-note-items
shared_ref_as_front-note-items c = ready_few c.requires.ready

pub loop-note-init : goal.loop-note-init
loop-note-init c = opening_start _ _ refl c.requires.own

pub place_list-place-requires : goal.place_list-place-requires
place_list-place-requires c =
    let low = inside c.args.noted.now.notes c.loop-note-test.true in
    opening_placeable c.loop-note.invariant (omega (arith, low, ready_few c.requires.ready))

pub loop-note-preserved : goal.loop-note-preserved
loop-note-preserved c =
    let h = c.args.state.now.heard.len in
    let notes = c.args.noted.now.notes in
    let j = c.loop-note.note-index in
    let low = inside notes c.loop-note-test.true in
    let note-is = get_or-take h notes j 0 low in
    let r = c.place_list-place.result in
    let last = c.if-note-ne-NO_FRAME.last in
    let slot = c.if-note-ne-NO_FRAME.slot in
    let recalled : ((last ≡ get_or notes j 0) × (slot ≡ r)) ⊎ ((last ≡ c.loop-note.last) × (slot ≡ c.loop-note.slot)) =
    elim c.if-note-ne-NO_FRAME.branch [
      | then-note-ne-NO_FRAME w ↦ inl (rw note-is at w.last-is, w.slot-is)
      | else-note-ne-NO_FRAME w ↦ inr (w.last-is, w.slot-is)
    ] in
    opening_more c.loop-note.invariant (rw note-is at c.place_list-place.ensures) recalled
