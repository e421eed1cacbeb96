-- `controller_c::word::put_word` meets its contract: the number's bytes are those of `number_bytes`, and their copy into the slice is four stores.
use Rattle.std.proofs.Common.{arith}
use Rattle.std.proofs.lemmas.Grind.{common_steps}
use Rattle.std.proofs.lemmas.List.Edits.{sets-eq}
use Rattle.controller_c.specs.Words.{number_bytes}
use Rattle.controller_c.proofs.word.put_word.Goals as goal

pub returns : goal.returns
returns c = grind (arith, common_steps, sets-eq (number_bytes c.args.x) c.args.s.now c.args.at c.requires)
