-- `controller::opened::list_count` meets its contract: bytes that are not refused list as many numbers as they count, and what is void lists nothing.
use Rattle.std.proofs.Common.{List, ℕ, Result, Ok, Err, cond, ◌∙◌, ◌≡◌, length, sym}
use Rattle.std.specs.Result.{is_ok}
use Rattle.wire.specs.Frame.{content, count_of, number_checked, read_refusal}
use Rattle.wire.specs.Laws.Words.{words_length}
use Rattle.wire.specs.Limits.{frame_header}
use Rattle.wire.specs.declared.frame.Void.{Void}
use Rattle.wire.specs.declared.frame.Void.TheVariants.{WrongLength, WrongRound, WrongContent}
use Rattle.controller.specs.Received.{list_in}
use Rattle.controller.proofs.opened.list_count.Goals as goal

listed : (s : List ℕ) (t : ℕ) (r : Result Unit Void) → number_checked r ≡ read_refusal s t → length (list_in (content s t)) ≡ cond (is_ok r) (count_of s) 0
unfolding content
listed s t (Ok u) e = rw (← e) (words_length s frame_header (count_of s))
listed s t (Err WrongLength) e = rw (← e)
listed s t (Err WrongRound) e = rw (← e)
listed s t (Err WrongContent) e = rw (← e)

pub returns-then-is_ok : goal.returns-then-is_ok
returns-then-is_ok c =
    let is = listed _ _ _ c.check_frame.ensures in
    c.number_count.ensures ∙ sym (rw (← c.is_ok.ensures.value, c.if-is_ok.true) at is)

pub returns-else-is_ok : goal.returns-else-is_ok
returns-else-is_ok c =
    let is = listed _ _ _ c.check_frame.ensures in
    sym (rw (← c.is_ok.ensures.value, c.if-is_ok.false) at is)
