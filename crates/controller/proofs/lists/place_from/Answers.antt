-- `controller::lists::place_from` meets its contract: the place is never behind where the search stands, and is there at the first number not below x.
use Rattle.std.proofs.Common.{arith, get_or, get_or-take, ◌≡◌, ◌+◌, ◌≤◌, ◌<◌, ℕ}
use Rattle.wire.specs.Numbers.{listed}
use Rattle.wire.specs.declared.frame.Numbers.{Numbers}
use Rattle.controller.specs.Laws.State.{ListTests, sound_list_gives}
use Rattle.controller.specs.Laws.Work.Lists.{below_past, below_within, below_length}
use Rattle.controller.specs.Work.Lists.{below}
use Rattle.controller.proofs.lists.place_from.Goals as goal

module _ (n : Numbers) (x : ℕ) (t : ListTests n) where
  stops : (i : ℕ) → i ≤ below x (listed n) → i < n.len → x ≤ get_or n.at i 0 → i ≡ below x (listed n)
  stops i here h le =
      omega (arith, below_within x (listed n) i t.list.rises (omega (arith, t.used)) (rw (get_or-take n.len n.at i 0 h) le))

  passes : (i : ℕ) → i < n.len → get_or n.at i 0 < x → i + 1 ≤ below x (listed n)
  passes i h lt =
      omega (arith, below_past x (listed n) i t.list.rises (omega (arith, t.used)) (rw (get_or-take n.len n.at i 0 h) lt))

  most : below x (listed n) ≤ n.len
  most = omega (arith, t.used, below_length x (listed n))

pub returns-then-x-list : goal.returns-then-x-list
returns-then-x-list c =
    let n = c.args.list.now in
    stops n c.args.x (sound_list_gives n c.requires.sound) c.loop-i.i c.loop-i.invariant c.loop-i-test.true c.if-x-list.true

pub loop-i-preserved : goal.loop-i-preserved
loop-i-preserved c =
    let n = c.args.list.now in
    passes n c.args.x (sound_list_gives n c.requires.sound) c.loop-i.i c.loop-i-test.true c.if-x-list.false

pub returns : goal.returns
returns c = omega (arith, most c.args.list.now c.args.x (sound_list_gives c.args.list.now c.requires.sound))
