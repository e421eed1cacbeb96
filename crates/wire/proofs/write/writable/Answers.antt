-- `wire::write::writable` meets its contract: it is the tests of `writable` in their order.
use Rattle.wire.specs.Frame.{writable}
use Rattle.wire.proofs.write.writable.Goals as goal

pub returns : goal.returns
unfolding writable
returns c = cc
