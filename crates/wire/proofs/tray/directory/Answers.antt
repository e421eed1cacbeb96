-- `wire::tray::directory` meets its contract: a count is below 2 ^ 16, so the directory's length does not wrap, and the rest is a part of the tray.
use Rattle.std.proofs.Common.{arith}
use Rattle.wire.specs.Laws.Tray.{entry_count_below}
use Rattle.wire.proofs.tray.directory.Goals as goal

pub overflow_mul-entry_count : goal.overflow_mul-entry_count
overflow_mul-entry_count c = omega (arith, c.entry_count.ensures, entry_count_below c.args.tray.now (λ i. (c.type_inv.tray i).fits))
