-- `wire::found::same_bytes` meets its contract: equal parts have equal blocks, and a part is its front with its blocks.
use Rattle.std.proofs.Common.{ℕ, suc, arith, sym, ap, ◌∙◌, ◌*◌, ◌/◌, ◌%◌, ◌-◌, ◌<◌, get_or, length-drop, drop-cons}
use Rattle.std.proofs.Math.Path.{◌≡◌, refl}
use Rattle.std.proofs.Math.Bool.{not, and_comm}
use Rattle.std.specs.Prelude.{Bool, true, false, zero, List, [], ◌∷◌, length, take, drop, eqb}
use Rattle.std.specs.Simd.{first_chunks}
use Rattle.std.specs.Cmp.Lexicographic.{pointwise, same_text, other_text}
use Rattle.std.proofs.lemmas.List.{take-append-drop}
use Rattle.wire.specs.Found.{same_bytes}
use Rattle.wire.specs.Laws.Found.{same_self, same_split, same_apart, same_as_long}
use Rattle.wire.proofs.found.same_bytes.Goals as goal

-- what is made of the same whole blocks is the same
blocks_same : (n k : ℕ) (a b : List ℕ) → length a ≡ k * n → length b ≡ k * n → first_chunks n k a ≡ first_chunks n k b → a ≡ b
blocks_same n zero [] [] s t e = refl
blocks_same n zero [] (y ∷ b) s t e = absurd (omega (arith, t))
blocks_same n zero (x ∷ a) b s t e = absurd (omega (arith, s))
blocks_same n (suc k) a b s t e =
    let first : take n a ≡ take n b = ap (λ (l : List (List ℕ)). get_or l 0 []) e in
    let rest = blocks_same n k (drop n a) (drop n b) (omega (arith, s, length-drop n a)) (omega (arith, t, length-drop n b)) (ap (drop 1) e) in
    sym (take-append-drop n a) ∙ rw (first, rest) (take-append-drop n b)

-- std's test of bytes is ours
tested : (a b : List ℕ) → pointwise eqb a b ≡ same_bytes a b
tested [] [] = refl
tested [] (y ∷ b) = refl
tested (x ∷ a) [] = refl
tested (x ∷ a) (y ∷ b) = rw (tested a b)

-- the same from a place on, with the same one in front of it
one_more : (x y : List (List ℕ)) (i : ℕ) → i < length x → i < length y → get_or x i [] ≡ get_or y i [] → drop (suc i) x ≡ drop (suc i) y → drop i x ≡ drop i y
one_more x y i h k e f = rw (drop-cons x i [], drop-cons y i [], e, f) refl

-- front and blocks
joined : (a b : List ℕ) → length a ≡ length b
    → first_chunks 64 (length a / 64) (drop (length a % 64) a) ≡ first_chunks 64 (length b / 64) (drop (length b % 64) b)
    → (r : Bool) → r ≡ same_bytes (take (length a % 64) a) (take (length b % 64) b) → r ≡ same_bytes a b
joined a b long blocks r front =
    let k = length a % 64 in
    let at : length b % 64 ≡ k = rw long refl in
    let many : length b / 64 ≡ length a / 64 = rw long refl in
    let rest : drop k a ≡ drop k b =
    blocks_same 64 (length a / 64) (drop k a) (drop k b) (omega (arith, length-drop k a)) (omega (arith, length-drop k b, long))
    (blocks ∙ rw (at, many) refl) in
    front ∙ ap (λ (m : ℕ). same_bytes (take k a) (take m b)) at
    ∙ sym (same_split k a b ∙ rw (rest, same_self (drop k b)) (and_comm (same_bytes (take k a) (take k b)) true))

-- what a test says of the one that it denies
no : (t : Bool) → true ≡ not t → false ≡ t
no true e = sym e
no false e = refl

yes : (t : Bool) → false ≡ not t → true ≡ t
yes true e = refl
yes false e = sym e

pub returns-then-a-b : goal.returns-then-a-b
returns-then-a-b c = sym (same_as_long c.args.a.now c.args.b.now c.if-a-b.true)

pub returns-then-ne : goal.returns-then-ne
returns-then-ne c =
    let i = c.loop-i.i - 1 in
    sym (same_apart c.args.a.now c.args.b.now (λ e.
    other_text (get_or c.as_rchunks.result.1.now i []) (get_or c.as_rchunks-2.result.1.now i []) (no _ (sym c.if-ne.true ∙ c.ne.ensures))
    (rw (c.as_rchunks.ensures.back, c.as_rchunks-2.ensures.back, e) refl)))

pub loop-i-preserved : goal.loop-i-preserved
loop-i-preserved c =
    let i = c.loop-i.i - 1 in
    let turn : suc i ≡ c.loop-i.i = omega (arith, c.loop-i-test.true) in
    let same = same_text (get_or c.as_rchunks.result.1.now i []) (get_or c.as_rchunks-2.result.1.now i []) (yes _ (sym c.if-ne.false ∙ c.ne.ensures)) in
    one_more c.as_rchunks.result.1.now c.as_rchunks-2.result.1.now i
    (omega (arith, c.loop-i.auto.i, c.loop-i-test.true))
    (omega (arith, c.loop-i.auto.i, c.loop-i-test.true, c.as_rchunks.ensures.back_len, c.as_rchunks-2.ensures.back_len, c.if-a-b.false))
    same (rw turn c.loop-i.invariant)

pub returns : goal.returns
returns c =
    let a = c.args.a.now in
    let b = c.args.b.now in
    let none : c.loop-i.i ≡ 0 = omega (arith, c.loop-i-test.false) in
    let blocks : c.as_rchunks.result.1.now ≡ c.as_rchunks-2.result.1.now = (rw none at c.loop-i.invariant) in
    joined a b c.if-a-b.false (sym c.as_rchunks.ensures.back ∙ blocks ∙ c.as_rchunks-2.ensures.back) c.eq.result
    (c.eq.ensures ∙ rw (c.as_rchunks.ensures.front, c.as_rchunks-2.ensures.front) (tested (take (length a % 64) a) (take (length b % 64) b)))
