-- `controller::open_list::OpenLists::number_in` meets its contract: the own list's numbers are its first places, another's the tray's words,
-- with none behind the last.
use Rattle.std.proofs.Common.{ℕ, List, cond, ◌*◌, ◌+◌, ◌<◌, ◌∙◌, ◌≡◌, ◌≢◌, ◌≤◌, leb, length, sym, le-leb, eq-eqb, ne_eqb, get_or, get_or-take, arith}
use Rattle.std.proofs.Math.ListN.{get_or-eq_default}
use Rattle.wire.specs.Limits.{number_width}
use Rattle.wire.specs.Words.{word_at}
use Rattle.wire.specs.Laws.Words.{words_at_lem}
use Rattle.controller.specs.Laws.Lists.{get_or_inside}
use Rattle.controller.specs.Laws.Work.Opened.{list_from_length, list_at, start_at, count_at}
use Rattle.controller.specs.Work.OpenList.{end_mark, list_from, Lies}
use Rattle.controller.specs.declared.open_list.OpenLists.{OpenLists}
use Rattle.controller.proofs.open_list.OpenLists.number_in.Goals as goal

module _ (own b : List ℕ) (j start count i : ℕ) (lies : Lies own b j start count) where
  own_number : i < count → j ≡ 0 → get_or own i 0 ≡ get_or (list_from own b j start count) i end_mark
  own_number h e =
      let whole = lies.mine e in
      rw (eq-eqb j 0 e) (get_or_inside own i 0 end_mark (omega arith) ∙ sym (get_or-take count own i end_mark h))

  tray_number : (r : ℕ) → i < count → j ≢ 0 → r ≡ cond (leb (start + 4 * i + number_width) (length b)) (word_at b (start + 4 * i)) 0
      → r ≡ get_or (list_from own b j start count) i end_mark
  tray_number r h d e =
      let inside : start + 4 * i + number_width ≤ length b = lies.inside (omega arith) i h in
      e ∙ rw (le-leb _ _ inside, ne_eqb j 0 d) (sym (words_at_lem b start count i end_mark h))

  no_number : count ≤ i → end_mark ≡ get_or (list_from own b j start count) i end_mark
  no_number h = sym (get_or-eq_default (list_from own b j start count) end_mark (omega (arith, list_from_length own b j start count lies)))

lies_at : (o : OpenLists) (j : ℕ) → j < o.len → Lies o.own.now o.tray.now j (list_at o.lists j).start (list_at o.lists j).count
lies_at o j h = rw (start_at o.lists j, count_at o.lists j) at (o.opens.lies j h)

pub returns-then-list-i-clause-number : goal.returns-then-list-i-clause-number
returns-then-list-i-clause-number c =
    let o = c.args.self.now in
    let j = c.args.j in
    rw (start_at o.lists j, count_at o.lists j) (no_number _ _ _ _ _ _ (lies_at o j c.requires) c.if-list-i.true)

pub overflow_mul-i : goal.overflow_mul-i
overflow_mul-i c = record { fits = omega (arith, (lies_at c.args.self.now c.args.j c.requires).short) }

pub overflow_add-list : goal.overflow_add-list
overflow_add-list c =
    let lies = lies_at c.args.self.now c.args.j c.requires in
    record { fits = omega (arith, lies.short, lies.low) }

pub returns-then-j-eq0-clause-number : goal.returns-then-j-eq0-clause-number
returns-then-j-eq0-clause-number c =
    let o = c.args.self.now in
    let j = c.args.j in
    rw (start_at o.lists j, count_at o.lists j) (own_number _ _ _ _ _ _ (lies_at o j c.requires) c.if-list-i.false c.if-j-eq0.true)

pub returns-else-j-eq0-clause-number : goal.returns-else-j-eq0-clause-number
returns-else-j-eq0-clause-number c =
    let o = c.args.self.now in
    let j = c.args.j in
    rw (start_at o.lists j, count_at o.lists j)
    (tray_number _ _ _ _ _ _ (lies_at o j c.requires) _ c.if-list-i.false c.if-j-eq0.false c.read_number.ensures)
