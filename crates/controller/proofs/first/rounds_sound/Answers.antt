-- `controller::first::rounds_sound` meets its contract: its two counts of zeros, with the tests beside them, say what `sound_beside` says place by place.
use Rattle.std.proofs.Common.{arith}
use Rattle.controller.specs.Laws.Work.First.{rounds_sound_is}
use Rattle.controller.proofs.first.rounds_sound.Goals as goal

pub returns : goal.returns
returns c l size up =
    rw (c.zeros-used.ensures, c.zeros-all.ensures, c.all_timely.ensures)
    (rounds_sound_is c.args.since.now c.args.len (omega arith) c.requires.few l c.args.own size up c.requires.inside)
