-- `controller::open_list::OpenLists::find_list` meets its contract: with no frame the own list is received, which is open; frames with the same bytes
-- have the same list; and a list with the own numbers is the own one. Any other lies where it was read.
use Rattle.std.proofs.Common.{List, Bool, ℕ, length, take, true, cond, ◌∙◌, ◌≡◌, ◌≢◌, refl, true≢false, sym, ap, ne_eqb, length-take-le, arith}
use Rattle.wire.specs.Found.{Under}
use Rattle.wire.specs.Notes.{no_frame, found_by, same_frames}
use Rattle.wire.specs.Laws.Notes.{same_meaning}
use Rattle.controller.specs.Laws.Work.Opened.{list_at, count_at}
use Rattle.controller.specs.Received.{read_in, list_in}
use Rattle.controller.specs.Work.Opened.{list_under}
use Rattle.controller.specs.Work.Received.{noted}
use Rattle.controller.specs.declared.open_list.OpenLists.{OpenLists}
use Rattle.controller.proofs.open_list.OpenLists.find_list.Goals as goal

module _ (round : ℕ) (l b : List ℕ) where
  -- with a frame its list is received
  read_under : (k : ℕ) → k ≢ no_frame → list_under round l b k ≡ list_in (read_in round (noted b k))
  read_under k some = ap (λ (t : Bool). cond t l (list_in (read_in round (noted b k)))) (ne_eqb k no_frame some)

  -- and with the same bytes the same list
  same_under : (j k : ℕ) → k ≢ no_frame → same_frames b j k ≡ true → list_under round l b k ≡ list_under round l b j
  same_under j k some same =
      let frame : j ≢ no_frame = λ e. true≢false (sym same ∙ ap (λ (i : ℕ). same_frames b i k) e) in
      read_under k some
      ∙ ap (λ (u : Under). list_in (read_in round u)) (sym (same_meaning b (found_by j) (found_by k) same))
      ∙ sym (read_under j frame)

-- the own list has as many numbers as list 0 counts
own_size : (o : OpenLists) → length (take (list_at o.lists 0).count o.own.now) ≡ (list_at o.lists 0).count
own_size o = length-take-le (list_at o.lists 0).count o.own.now (omega (arith, count_at o.lists 0, (o.opens.lies 0 o.opens.some).mine refl))

pub returns-then-same_frames : goal.returns-then-same_frames
returns-then-same_frames c =
    let a = c.args in
    let recalls = c.requires in
    let same : same_frames a.self.now.tray.now a.last a.note ≡ true = sym c.same_frames.ensures ∙ c.if-same_frames.true in
    (recalls.one, same_under a.round _ a.self.now.tray.now a.last a.note c.if-note-eq-NO_FRAME.false same ∙ sym recalls.same)

pub same_list-requires-clause-few : goal.same_list-requires-clause-few
same_list-requires-clause-few c =
    let lies = c.args.self.now.opens.lies 0 c.args.self.now.opens.some in
    omega (arith, own_size c.args.self.now, count_at c.args.self.now.lists 0, lies.short)

pub same_list-requires-clause-inside : goal.same_list-requires-clause-inside
same_list-requires-clause-inside c i h =
    c.list_of-list.ensures.span.inside i (omega (arith, own_size c.args.self.now, c.if-list-count.true))
