-- `controller_c::field` meets its contract: a sound image is long enough to have the number.
use Rattle.std.proofs.Common.{arith}
use Rattle.controller_c.specs.Laws.Image.{sound_image_gives}
use Rattle.controller_c.proofs.field.Goals as goal

pub word-requires : goal.word-requires
word-requires c = grind (arith, sound_image_gives)
