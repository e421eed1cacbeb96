-- Laws of who sent the own list: how many agree with it among the first notes, one note after the other.
use Rattle.std.specs.Prelude.{ℕ, suc, ◌+◌, ◌≤◌, Bool, true, false, cond, List, [], ◌≡◌, refl, length}
use Rattle.std.specs.Prelude.{Option, Some, None}
use Rattle.std.proofs.Common.{ap, ◌∙◌, arith}
use Rattle.wire.specs.Frame.{Content, count_of, content}
use Rattle.wire.specs.Laws.Frame.{read_numbers}
use Rattle.wire.specs.Limits.{frame_header}
use Rattle.wire.specs.Words.{words_at}
use Rattle.controller.specs.Lists.{mem}
use Rattle.controller.specs.Received.{list_in}
use Rattle.controller.specs.Work.Own.{Agrees}

-- bytes that are no more than a header list nothing
pub short_list : (s : List ℕ) (t : ℕ) → length s ≤ frame_header → list_in (content s t) ≡ []
short_list s t h = pick (content s t) refl
  where
    pick : (o : Option Content) → content s t ≡ o → list_in o ≡ []
    pick None e = refl
    pick (Some c) e =
        let r = read_numbers s t c e in
        let count : count_of s ≡ 0 = omega (arith, r.1) in
        r.0 ∙ ap (words_at s frame_header) count

module _ (l : ℕ → List ℕ) (m : List ℕ) where
  pub agrees_none : Agrees l m 0 0
  agrees_none y = (λ t. omega arith, λ t. omega arith)

  module _ {j k : ℕ} (so_far : Agrees l m j k) where
    -- the next list is the own one
    pub agrees_more : l j ≡ m → Agrees l m (j + 1) (k + 1)
    agrees_more e y =
        let next : j + 1 ≡ suc j = omega arith in
        (λ t. rw (next, e, t) (omega (arith, (so_far y).0 t)), λ t. rw (next, e, t) (omega (arith, (so_far y).1 t)))

    -- or it may be another
    pub agrees_same : Agrees l m (j + 1) k
    agrees_same y =
        let next : j + 1 ≡ suc j = omega arith in
        (λ t. rw next (omega (arith, (so_far y).0 t)), λ t. rw next (omega (arith, (so_far y).1 t, one_most (mem y (l j)))))
      where
        one_most : (b : Bool) → cond b 1 0 ≤ 1
        one_most true = omega arith
        one_most false = omega arith
