-- `controller::lists::open_at` meets its contract: what stands from `to` on is copied one place further, and x takes its first place.
use Rattle.std.specs.List.{copy_within}
use Rattle.std.proofs.Common.{ℕ, ◌+◌, ◌-◌, ◌≤◌, ◌<◌, List, [], ◌∷◌, ◌++◌, ◌≡◌, ◌∙◌, length, take, drop, set, arith, append_assoc, length-take-le, ap, sym}
use Rattle.std.proofs.lemmas.List.{drop-take, set-append_left, take_more_set}
use Rattle.std.proofs.Math.Seq.{take-set-lt}
use Rattle.controller.specs.Work.Lists.{opened}
use Rattle.controller.proofs.lists.open_at.Goals as goal

moved : (x n i : ℕ) (s : List ℕ) → i ≤ n → n < length s → set (copy_within s i n (i + 1)) i x ≡ opened i x n s
moved x n i s h k =
    let far : i + 1 + (n - i) ≡ n + 1 = omega arith in
    let there : i + (n - i) ≡ n = omega arith in
    let part : take (n - i) (drop i s) ≡ drop i (take n s) = sym (drop-take i (n - i) s) ∙ ap (λ (m : ℕ). drop i (take m s)) there in
    let front : set (take (i + 1) s) i x ≡ take i s ++ x ∷ [] = sym (take-set-lt (i + 1) s i x (omega arith)) ∙ take_more_set s i x (omega arith) in
    ap (λ (l : List ℕ). set l i x) (append_assoc (take (i + 1) s) (take (n - i) (drop i s)) (drop (i + 1 + (n - i)) s))
    ∙ set-append_left (take (i + 1) s) (take (n - i) (drop i s) ++ drop (i + 1 + (n - i)) s) i x (omega (arith, length-take-le (i + 1) s (omega arith)))
    ∙ rw (front, far, part) (append_assoc (take i s) (x ∷ []) (drop i (take n s) ++ drop (n + 1) s))

pub returns : goal.returns
returns c = rw c.copy_within.ensures.after (moved c.args.x c.args.len c.args.to c.args.at.now (omega arith) (omega arith))
