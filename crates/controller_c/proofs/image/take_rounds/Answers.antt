-- `controller_c::image::take_rounds` meets its contract: what is copied is the part of the image that has the rounds.
use Rattle.std.proofs.Common.{◌∙◌}
use Rattle.std.proofs.lemmas.Slice.{between_is}
use Rattle.controller_c.specs.Image.{since_at, reserved_at, rounds_at}
use Rattle.controller_c.proofs.image.take_rounds.Goals as goal

pub returns : goal.returns
unfolding rounds_at
returns c = c.copy_from_slice.ensures.after ∙ between_is c.args.image.now since_at reserved_at
