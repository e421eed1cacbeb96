-- `controller::sound::is_list` meets its contract: it is the tests of `sound_list` in their order, the last one made by a count.
use Rattle.std.proofs.Common.{arith, le-leb}
use Rattle.wire.specs.Limits.{max_numbers}
use Rattle.controller.specs.Laws.Work.First.{list_is}
use Rattle.controller.proofs.sound.is_list.Goals as goal

pub returns-then-list-le-MAX_NUMBERS : goal.returns-then-list-le-MAX_NUMBERS
returns-then-list-le-MAX_NUMBERS c =
    let list = c.args.list.now in
    let fits = c.if-list-le-MAX_NUMBERS.true in
    rw (le-leb _ max_numbers fits, c.rise.ensures, c.zero_places.ensures) (list_is list.at list.len (omega arith) fits)
