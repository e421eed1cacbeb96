-- `controller::lists::find_near` meets its contract: in a rising list the place of a number that is there is where it stands.
use Rattle.std.proofs.Common.{arith, get_or, Ok, ◌≡◌, ◌<◌, ℕ}
use Rattle.wire.specs.Numbers.{listed}
use Rattle.wire.specs.declared.frame.Numbers.{Numbers}
use Rattle.controller.specs.Laws.Lists.{in_mem}
use Rattle.controller.specs.Laws.State.{ListTests, sound_list_gives}
use Rattle.controller.specs.Laws.Work.Lists.{stands_there}
use Rattle.controller.specs.Work.Lists.{found_in}
use Rattle.controller.proofs.lists.find_near.Goals as goal

stands : (n : Numbers) (x i : ℕ) → ListTests n → i < n.len → get_or n.at i 0 ≡ x → Ok i ≡ found_in x (listed n)
stands n x i t h e =
    let at = stands_there n x i t.list.rises h (omega (arith, t.used)) e in
    rw (in_mem at.0, ← at.1)

pub returns-then-list-guess : goal.returns-then-list-guess
returns-then-list-guess c =
    stands c.args.list.now c.args.x c.args.guess (sound_list_gives c.args.list.now c.requires) c.if-guess-list.true c.if-list-guess.true
