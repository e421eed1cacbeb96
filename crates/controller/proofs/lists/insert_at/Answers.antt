-- `controller::lists::insert_at` meets its contract: what `open_at` leaves is the stored form of the list with x.
use Rattle.controller.specs.Laws.State.{sound_list_gives}
use Rattle.controller.specs.Laws.Work.Lists.{opened_stored}
use Rattle.controller.proofs.lists.insert_at.Goals as goal

pub returns : goal.returns
returns c =
    let list = c.args.list.now in
    opened_stored list c.args.to c.args.x _ (sound_list_gives list c.requires.sound).back c.requires.room c.requires.inside c.open_at.ensures
