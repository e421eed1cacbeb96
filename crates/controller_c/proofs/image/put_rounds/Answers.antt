-- `controller_c::image::put_rounds` meets its contract: a copy into a part of the image is a run of stores.
use Rattle.std.proofs.Common.{rules}
use Rattle.wire.specs.Limits.{max_numbers}
use Rattle.controller_c.specs.Image.{since_at}
use Rattle.controller_c.proofs.Stores.{sets_part}
use Rattle.controller_c.proofs.image.put_rounds.Goals as goal

pub returns : goal.returns
returns c = sets_part c.args.image.now _ c.args.since.now since_at max_numbers c.copy_from_slice.ensures.after (search rules) (search rules)
