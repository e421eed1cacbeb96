-- `controller_c::controller_first_round` meets its contract: behind the record of a sound image there are only zeros.
use Rattle.std.proofs.Common.{arith}
use Rattle.controller_c.specs.Laws.Image.{sound_image_gives, round_read, round_past}
use Rattle.controller_c.proofs.controller_first_round.Goals as goal

pub bounds-image-place : goal.bounds-image-place
bounds-image-place c = grind (arith, sound_image_gives)

pub returns-then-is_sound_image : goal.returns-then-is_sound_image
returns-then-is_sound_image c = grind (arith, round_read)

pub returns-else-place-lt-MAX_NUMBERS : goal.returns-else-place-lt-MAX_NUMBERS
returns-else-place-lt-MAX_NUMBERS c = grind (arith, round_past)
