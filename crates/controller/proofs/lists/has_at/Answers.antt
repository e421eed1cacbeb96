-- `controller::lists::has_at` meets its contract: a number is in a rising list exactly if it stands at its place.
use Rattle.std.proofs.Common.{arith, le-ltb, sym, eqb, ltb, get_or, get_or-take, ◌∙◌, ◌≡◌, ◌≤◌, ◌<◌, ℕ}
use Rattle.wire.specs.Numbers.{listed}
use Rattle.wire.specs.declared.frame.Numbers.{Numbers}
use Rattle.controller.specs.Laws.State.{ListTests, sound_list_gives}
use Rattle.controller.specs.Laws.Work.Lists.{below_finds, below_misses}
use Rattle.controller.specs.Lists.{mem}
use Rattle.controller.specs.Work.Lists.{below}
use Rattle.controller.proofs.lists.has_at.Goals as goal

module _ (list : Numbers) (i x : ℕ) (tests : ListTests list) (place : i ≡ below x (listed list)) where
  finds : i < list.len → eqb (get_or list.at i 0) x ≡ mem x (listed list)
  finds h =
      let here : get_or (listed list) i 0 ≡ get_or list.at i 0 = get_or-take list.len list.at i 0 h in
      rw (← here, place) (below_finds x (listed list) tests.list.rises (omega (arith, tests.used, place)))

  misses : list.len ≤ i → ltb i list.len ≡ mem x (listed list)
  misses h = le-ltb i list.len h ∙ sym (below_misses x (listed list) (omega (arith, tests.used, place)))

pub returns-then-i-list : goal.returns-then-i-list
returns-then-i-list c =
    finds c.args.list.now c.args.i c.args.x (sound_list_gives c.args.list.now c.requires.sound) c.requires.place c.if-i-list.true

pub returns-else-i-list : goal.returns-else-i-list
returns-else-i-list c =
    misses c.args.list.now c.args.i c.args.x (sound_list_gives c.args.list.now c.requires.sound) c.requires.place c.if-i-list.false
