-- `wire::word::put_word` meets its contract: the number's bytes, highest first, are those of `word_bytes`, and their copy into the slice is four stores.
use Rattle.std.proofs.Common.{arith}
use Rattle.std.proofs.lemmas.Grind.{common_steps}
use Rattle.std.proofs.lemmas.List.Edits.{sets-eq}
use Rattle.wire.specs.Words.{word_bytes}
use Rattle.wire.proofs.word.put_word.Goals as goal

pub returns : goal.returns
returns c = grind (arith, common_steps, sets-eq (word_bytes c.args.x) c.args.s.now c.args.at c.requires)
