-- `controller_c::controller_decision` meets its contract: a sound image is long enough to have the decision.
use Rattle.std.proofs.Common.{arith}
use Rattle.controller_c.specs.Laws.Image.{sound_image_gives}
use Rattle.controller_c.proofs.controller_decision.Goals as goal

pub bounds-image-15 : goal.bounds-image-15
bounds-image-15 c = grind (arith, sound_image_gives)
