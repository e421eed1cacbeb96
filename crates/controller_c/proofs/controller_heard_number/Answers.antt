-- `controller_c::controller_heard_number` meets its contract: behind the numbers of a sound image's heard there are only zeros.
use Rattle.std.proofs.Common.{arith}
use Rattle.controller_c.specs.Laws.Image.{number_read_lem, number_past}
use Rattle.controller_c.proofs.controller_heard_number.Goals as goal

pub returns-then-place-lt-MAX_NUMBERS : goal.returns-then-place-lt-MAX_NUMBERS
returns-then-place-lt-MAX_NUMBERS c = grind (arith, number_read_lem)

pub returns-else-place-lt-MAX_NUMBERS : goal.returns-else-place-lt-MAX_NUMBERS
returns-else-place-lt-MAX_NUMBERS c = grind (arith, number_past)
