-- `controller::received::note_known` meets its contract: before each entry, those behind it are known and noted.
use Rattle.std.specs.Prelude.{ℕ, ◌-◌, ◌≤◌, ◌<◌, true, ◌≡◌, get_or}
use Rattle.std.proofs.Common.{sym, ap, subst, ◌∙◌, arith}
use Rattle.wire.specs.Limits.{max_numbers}
use Rattle.wire.specs.Notes.{note_with}
use Rattle.wire.specs.Numbers.{listed}
use Rattle.wire.specs.Tray.{sender}
use Rattle.wire.specs.declared.frame.Numbers.{Numbers}
use Rattle.controller.proofs.Directory.{entry_sent, entry_placed, entries_counted}
use Rattle.controller.proofs.NextEntry.{counted, behind}
use Rattle.controller.specs.Lists.{In}
use Rattle.controller.specs.State.{sound_list}
use Rattle.controller.specs.Laws.State.{sound_list_gives}
use Rattle.controller.specs.Laws.Work.Hears.{hears_none, known_short, hears_known}
use Rattle.controller.specs.Laws.Work.Lists.{found_known, stands_there}
use Rattle.controller.specs.Work.Lists.{below}
use Rattle.controller.proofs.received.note_known.Goals.{Joined-stands_before, then-stands_before, else-stands_before+in-Ok}
use Rattle.controller.proofs.received.note_known.Goals as goal

-- x is a number of the list, and p its place
abbrev Placed : Numbers → ℕ → ℕ → Type 0
Placed n x p = In x (listed n) × (p ≡ below x (listed n))

-- one that stands just before a place
just_before : (n : Numbers) → sound_list n ≡ true → (x place : ℕ) → place ≤ n.len → (0 < place) × (get_or n.at (place - 1) 0 ≡ x) → Placed n x (place - 1)
just_before n sound x place few stands =
    let was = sound_list_gives n sound in
    let used : place - 1 < n.len = omega (arith, stands.0) in
    stands_there n x (place - 1) was.list.rises used (omega (arith, was.used)) stands.1

-- the sender that is read
sender_read : (c : Joined-stands_before) → c.entry_sender-sender.result ≡ sender c.args.tray.bytes.now (c.loop-i.i - 1)
sender_read c = entry_sent _ c.directory-entries.ensures _ _ c.entry_sender-sender.ensures

found : (c : Joined-stands_before) → Placed c.args.heard.now (sender c.args.tray.bytes.now (c.loop-i.i - 1)) c.if-stands_before.place
found c =
    let n = c.args.heard.now in
    let x = c.entry_sender-sender.result in
    let here : Placed n x c.if-stands_before.place =
    elim c.if-stands_before.branch [
      | then-stands_before w ↦
          subst (Placed n x) (sym w.place-is)
          (just_before n c.requires.sound x c.loop-i.place c.loop-i.invariant.0 (c.stands_before.ensures w.if-stands_before.true))
      | else-stands_before+in-Ok w ↦
          subst (Placed n x) (sym w.place-is) (found_known x _ (listed n) w.in-Ok.ensures)
    ] in
    subst (λ (y : ℕ). Placed n y c.if-stands_before.place) (sender_read c) here

-- the place is one of those used, and of 64
used : (c : Joined-stands_before) → (c.if-stands_before.place < c.args.heard.now.len) × (c.args.heard.now.len ≤ max_numbers)
used c =
    let was = sound_list_gives c.args.heard.now c.requires.sound in
    let so_far = c.loop-i.invariant.1 in
    let test = c.loop-i-test.true in
    let short = known_short (counted so_far test) (behind so_far test) (found c).0 in
    (omega (arith, (found c).1, short, was.used), omega (arith, was.used, was.list.short))

inside : (c : Joined-stands_before) → c.if-stands_before.place < max_numbers
inside c = omega (arith, used c)

pub loop-i-init : goal.loop-i-init
loop-i-init c =
    let count = entries_counted c.args.tray.bytes.now c.directory-entries.ensures c.args.tray.packed in
    (omega arith, hears_none _ c.args.tray.bytes.now _ _ _ count c.requires.sound c.requires.empty)

pub offset_bounds-notes-place : goal.offset_bounds-notes-place
offset_bounds-notes-place c = omega (arith, inside (goal.at.offset_bounds-notes-place c).Joined-stands_before)

pub bounds-notes-place : goal.bounds-notes-place
bounds-notes-place c = inside (goal.at.bounds-notes-place c).Joined-stands_before

pub offset_bounds-notes-place-in-loop-i : goal.offset_bounds-notes-place-in-loop-i
offset_bounds-notes-place-in-loop-i c = omega (arith, inside (goal.at.offset_bounds-notes-place-in-loop-i c).Joined-stands_before)

pub bounds-notes-place-in-loop-i : goal.bounds-notes-place-in-loop-i
bounds-notes-place-in-loop-i c = inside (goal.at.bounds-notes-place-in-loop-i c).Joined-stands_before

pub loop-i-preserved : goal.loop-i-preserved
loop-i-preserved c =
    let at = (goal.at.loop-i-preserved c).Joined-stands_before in
    let b = c.args.tray.bytes.now in
    let p = c.if-stands_before.place in
    let so_far = c.loop-i.invariant.1 in
    let test = c.loop-i-test.true in
    let placed = entry_placed b c.directory-entries.ensures _ _ c.entry_place.ensures in
    let noted = c.note_with.ensures ∙ ap (note_with b (get_or c.loop-i.notes p 0)) placed in
    let here = found at in (
      omega (arith, used at),
      hears_known (counted so_far test) (behind so_far test) here.0 (λ e. c.if-sender-own.false (sender_read at ∙ e)) p c.note_with.result here.1 noted,
    )
