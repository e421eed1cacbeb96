-- `wire::word::put_half` meets its contract: the number's bytes, highest first, are those of `half_bytes`, and their copy into the slice is two stores.
use Rattle.std.proofs.Common.{arith}
use Rattle.std.proofs.lemmas.Grind.{common_steps}
use Rattle.std.proofs.lemmas.List.Edits.{sets-eq}
use Rattle.wire.specs.Words.{half_bytes}
use Rattle.wire.proofs.word.put_half.Goals as goal

pub returns : goal.returns
returns c = grind (arith, common_steps, sets-eq (half_bytes c.args.x) c.args.s.now c.args.at c.requires.room)
