-- `wire::write::put_numbers` meets its contract: what is left to store, stored behind what was stored, gives the whole run of stores.
use Rattle.std.proofs.Common.{◌+◌, ◌*◌}
use Rattle.std.proofs.Math.Path.{◌≡◌}
use Rattle.std.specs.Prelude.{drop}
use Rattle.std.proofs.lemmas.List.Edits.{sets}
use Rattle.wire.specs.Limits.{frame_header, number_width}
use Rattle.wire.specs.Words.{words_bytes}
use Rattle.wire.proofs.write.put_numbers.Given as goal

abbrev pub invariant-loop-i : goal.invariant-loop-i
invariant-loop-i l =
    sets l.out (frame_header + number_width * l.i) (words_bytes (drop l.i l.numbers)) ≡ sets l.initial.out frame_header (words_bytes l.numbers)
