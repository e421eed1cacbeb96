-- `controller::opened::same_list` meets its contract: while no two numbers differed, what was passed is the same on both sides; at the end that is all.
use Rattle.std.proofs.Common.{List, ℕ, ◌*◌, ◌+◌, ◌<◌, ◌∙◌, ◌≡◌, ◌≤◌, length, get_or, ext_get_or, arith}
use Rattle.wire.specs.Laws.Words.{words_length, words_at_lem}
use Rattle.wire.specs.Words.{word_at, words_at}
use Rattle.controller.proofs.opened.same_list.Goals as goal

whole : (b own : List ℕ) (start i : ℕ) → length own ≤ i
    → ((k : ℕ) → k < i → word_at b (start + 4 * k) ≡ get_or own k 0) → words_at b start (length own) ≡ own
whole b own start i over same =
    let size = words_length b start (length own) in
    ext_get_or 0 (words_at b start (length own)) own size (λ k h. words_at_lem b start (length own) k 0 (omega arith) ∙ same k (omega arith))

pub returns : goal.returns
returns c e = whole _ _ _ _ c.loop-i-test.false c.loop-i.invariant
