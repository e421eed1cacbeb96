-- The causes in words, for who prints them. The papers have their numbers alone.
--     void_text e         why bytes are void
--     unwritten_text e    why a frame is not written
use Rattle.std.specs.Prelude.{ℕ, List, codes}
use Rattle.wire.specs.declared.frame.Void.{Void}
use Rattle.wire.specs.declared.frame.Void.TheVariants.{WrongLength, WrongRound, WrongContent}
use Rattle.wire.specs.declared.frame.Unwritten.{Unwritten}
use Rattle.wire.specs.declared.frame.Unwritten.TheVariants.{NoRoom, NoFrame}

abbrev pub void_text : Void → List ℕ
void_text WrongLength = codes "wrong length"
void_text WrongRound = codes "wrong round or kind"
void_text WrongContent = codes "wrong content"

abbrev pub unwritten_text : Unwritten → List ℕ
unwritten_text NoRoom = codes "no room"
unwritten_text NoFrame = codes "no frame"
