-- `wire::read::list_fits` meets its contract: the chunks behind the header are the numbers, and an empty list rises.
use Rattle.std.proofs.Common.{arith}
use Rattle.std.proofs.lemmas.Grind.{common_steps}
use Rattle.wire.specs.Laws.Words.{numbers_chunked}
use Rattle.wire.proofs.read.list_fits.Goals as goal

pub returns-then-count-max_count : goal.returns-then-count-max_count
returns-then-count-max_count c = grind (arith, common_steps, numbers_chunked c.args.bytes.now _ c.requires)
