-- `controller::bit::strong_of` meets its contract: the number of the test is 1 where `two_thirds` holds.
use Rattle.std.proofs.Common.{rules}
use Rattle.controller.specs.Thirds.{two_thirds}
use Rattle.controller.proofs.bit.strong_of.Goals as goal

pub returns : goal.returns
unfolding two_thirds
returns c = search rules
