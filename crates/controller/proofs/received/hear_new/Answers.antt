-- `controller::received::hear_new` meets its contract: before each entry, those behind it are heard and noted.
use Rattle.std.specs.Prelude.{ℕ, ◌-◌, ◌≤◌, ◌<◌, List, ◌≡◌, get_or, Ok, Err}
use Rattle.std.proofs.Common.{sym, ap, subst, ◌∙◌, arith}
use Rattle.wire.specs.Notes.{note_with}
use Rattle.wire.specs.Limits.{max_numbers}
use Rattle.wire.specs.Numbers.{stored, listed}
use Rattle.wire.specs.Tray.{sender}
use Rattle.wire.specs.declared.frame.Numbers.{Numbers}
use Rattle.controller.proofs.Directory.{entry_sent, entry_placed}
use Rattle.controller.proofs.NextEntry.{counted, behind}
use Rattle.controller.specs.Lists.{In}
use Rattle.controller.specs.Laws.State.{sound_list_gives}
use Rattle.controller.specs.Laws.Work.Hears.{known_short, hears_known, hears_new, hears_all, hears_own, hears_zero, hears_full}
use Rattle.controller.specs.Laws.Work.Lists.{below_length, found_known, found_unknown}
use Rattle.controller.specs.Work.Lists.{below, found_in, inserted_at, opened}
use Rattle.controller.specs.Work.Received.{HearsFrom}
use Rattle.controller.proofs.received.hear_new.Goals.{After-find_near, in-Ok, in-Err+else-sender-eq0+else-heard-ge-MAX_NUMBERS}
use Rattle.controller.proofs.received.hear_new.Goals.{then-sender-eq0-via-then-sender-eq0, then-sender-eq0-via-else-sender-eq0+then-heard-ge-MAX_NUMBERS}
use Rattle.controller.proofs.received.hear_new.Goals as goal

-- the sender that is read, and what is found of it among those heard
module _ (c : After-find_near) where
  abbrev among : List ℕ
  among = listed c.loop-i.heard

  abbrev who : ℕ
  who = sender c.args.tray.bytes.now (c.loop-i.i - 1)

  sender_read : c.entry_sender-sender.result ≡ who
  sender_read = entry_sent _ c.directory-entries.ensures _ _ c.entry_sender-sender.ensures

  other : who ≡ c.args.own → ⊥
  other e = c.if-sender-own.false (sender_read ∙ e)

  known : (p : ℕ) → Ok p ≡ found_in c.entry_sender-sender.result among → In who among × (p ≡ below who among)
  known p found = found_known who p among (found ∙ ap (λ (x : ℕ). found_in x among) sender_read)

  unknown : (p : ℕ) → Err p ≡ found_in c.entry_sender-sender.result among → (¬ In who among) × (p ≡ below who among)
  unknown p found = found_unknown who p among (found ∙ ap (λ (x : ℕ). found_in x among) sender_read)

  -- a known sender's place is one of 64
  inside : (p : ℕ) → Ok p ≡ found_in c.entry_sender-sender.result among → p < max_numbers
  inside p found =
      let it = known p found in
      let short = known_short (counted c.loop-i.invariant c.loop-i-test.true) (behind c.loop-i.invariant c.loop-i-test.true) it.0 in
      let was = sound_list_gives c.loop-i.heard c.loop-i.invariant.sound in
      omega (arith, it.1, short, was.list.short)

  -- a new sender's is no further than those heard
  small : (p : ℕ) → Err p ≡ found_in c.entry_sender-sender.result among → (p ≤ c.loop-i.heard.len) × (c.loop-i.heard.len ≤ max_numbers)
  small p found =
      let was = sound_list_gives c.loop-i.heard c.loop-i.invariant.sound in
      (omega (arith, (unknown p found).1, below_length who among, was.used), omega (arith, was.used, was.list.short))

-- the same in hand
moved : {own : ℕ} {b l : List ℕ} {n : Numbers} {f : List ℕ} {i : ℕ} → HearsFrom own b l n f i → (m : Numbers) (g : List ℕ) → m ≡ n → g ≡ f
    → HearsFrom own b l m g i
moved h m g list notes = rw (list, notes) h

pub returns-then-sender-own : goal.returns-then-sender-own
returns-then-sender-own c =
    let read = entry_sent _ c.directory-entries.ensures _ _ c.entry_sender-sender.ensures in
    hears_own _ _ _ (c.loop-i.i - 1) _ _ (counted c.loop-i.invariant c.loop-i-test.true) (sym read ∙ c.if-sender-own.true)

pub offset_bounds-notes-at : goal.offset_bounds-notes-at
offset_bounds-notes-at c = omega (arith, inside (goal.at.offset_bounds-notes-at c).After-find_near c.in-Ok.at c.in-Ok.ensures)

pub bounds-notes-at : goal.bounds-notes-at
bounds-notes-at c = inside (goal.at.bounds-notes-at c).After-find_near c.in-Ok.at c.in-Ok.ensures

pub offset_bounds-notes-at-in-Ok : goal.offset_bounds-notes-at-in-Ok
offset_bounds-notes-at-in-Ok c = omega (arith, inside (goal.at.offset_bounds-notes-at-in-Ok c).After-find_near c.in-Ok.at c.in-Ok.ensures)

pub bounds-notes-at-in-Ok : goal.bounds-notes-at-in-Ok
bounds-notes-at-in-Ok c = inside (goal.at.bounds-notes-at-in-Ok c).After-find_near c.in-Ok.at c.in-Ok.ensures

pub returns-then-sender-eq0 : goal.returns-then-sender-eq0
returns-then-sender-eq0 c =
    let near = (goal.at.returns-then-sender-eq0 c).After-find_near in
    let so_far = behind c.loop-i.invariant c.loop-i-test.true in
    let there = counted c.loop-i.invariant c.loop-i-test.true in
    elim c.then-sender-eq0.branch [
      | then-sender-eq0-via-then-sender-eq0 w ↦ hears_zero _ _ _ (c.loop-i.i - 1) _ _ there (sym (sender_read near) ∙ w.if-sender-eq0.true)
      | then-sender-eq0-via-else-sender-eq0+then-heard-ge-MAX_NUMBERS w ↦
          hears_full there so_far (unknown near c.in-Err.at c.in-Err.ensures).0 w.if-heard-ge-MAX_NUMBERS.true _ _
    ]

pub open_at-requires-clause-inside : goal.open_at-requires-clause-inside
open_at-requires-clause-inside c = (small (goal.at.open_at-requires-clause-inside c).After-find_near c.in-Err.at c.in-Err.ensures).0

pub overflow_add-next : goal.overflow_add-next
overflow_add-next c =
    let near = (goal.at.overflow_add-next c).After-find_near in
    elim c.match-find_near.branch [
      | in-Ok w ↦ omega (arith, inside near w.in-Ok.at w.in-Ok.ensures)
      | in-Err+else-sender-eq0+else-heard-ge-MAX_NUMBERS w ↦ omega (arith, small near w.in-Err.at w.in-Err.ensures)
    ]

pub loop-i-preserved : goal.loop-i-preserved
loop-i-preserved c =
    let near = (goal.at.loop-i-preserved c).After-find_near in
    let b = c.args.tray.bytes.now in
    let v = c.loop-i in
    let join = c.match-find_near in
    let so_far = behind v.invariant c.loop-i-test.true in
    let there = counted v.invariant c.loop-i-test.true in
    let placed = entry_placed b c.directory-entries.ensures _ _ c.entry_place-place.ensures in
    elim join.branch [
      | in-Ok w ↦
          let it = known near w.in-Ok.at w.in-Ok.ensures in
          let noted = w.note_with.ensures ∙ ap (note_with b (get_or v.notes w.in-Ok.at 0)) placed in
          moved (hears_known there so_far it.0 (other near) w.in-Ok.at w.note_with.result it.1 noted) join.heard join.notes w.heard-is w.notes-is
      | in-Err+else-sender-eq0+else-heard-ge-MAX_NUMBERS w ↦
          let it = unknown near w.in-Err.at w.in-Err.ensures in
          let longer = w.insert_at.ensures ∙ ap (λ (x : ℕ). stored (inserted_at w.in-Err.at x (listed v.heard))) (sender_read near) in
          let opens = w.open_at.ensures ∙ ap (λ (k : ℕ). opened w.in-Err.at k v.heard.len v.notes) placed in
          hears_new there so_far it.0 w.in-Err.at it.1 w.if-heard-ge-MAX_NUMBERS.false (λ z. w.if-sender-eq0.false (sender_read near ∙ z)) (other near)
          join.heard (w.heard-is ∙ longer) join.notes (w.notes-is ∙ opens)
    ]

pub returns : goal.returns
returns c =
    let v = c.loop-i in
    let end : v.i ≡ 0 = omega arith in
    hears_all c.args.tray.packed (subst (HearsFrom _ _ _ v.heard v.notes) end v.invariant)
