-- Runs of stores, as `lib.Seq.sets` has them.
--     join_at         two that follow each other are one
--     sets_whole      one as long as the list is all that is left of it
--     sets_behind     one behind the first part of a list leaves that part
--     sets_over       one as long as the part of a list that it starts with takes its place
--     sets_part       what a call leaves that writes a part of a slice, here the k numbers from at on
use borrow.Rule.Slice.PartMut.{put_mid}
use Rattle.std.proofs.lemmas.Grind.{common_steps}
use Rattle.std.proofs.lemmas.List.Edits.{sets, sets-eq}
use Rattle.std.proofs.Math.Path.{◌≡◌, ◌∙◌}
use Rattle.std.specs.Prelude.{refl, length, set, drop}
use Rattle.std.proofs.Common.{ap, arith, ℕ, zero, suc, ◌+◌, ◌≤◌, List, [], ◌∷◌, ◌++◌, append-nil}
use Rattle.std.proofs.Math.ListN.{drop_of_length-le}
use Rattle.wire.specs.Laws.Stores.{sets_join}

pub join_at : (l : List ℕ) (i k : ℕ) (vs ws : List ℕ) → k ≡ i + length vs → sets (sets l i vs) k ws ≡ sets l i (vs ++ ws)
join_at l i k vs ws e = rw e (sets_join l i vs ws)

pub sets_whole : (l vs : List ℕ) → length vs ≡ length l → sets l 0 vs ≡ vs
sets_whole l vs e =
    let h : 0 + length vs ≤ length l = omega arith in
    let none : drop (0 + length vs) l ≡ [] = drop_of_length-le l {i = 0 + length vs} (omega arith) in
    sets-eq vs l 0 h ∙ rw none (append-nil vs)

-- a run behind the first number
sets_cons : (x : ℕ) (l : List ℕ) (k : ℕ) (vs : List ℕ) → sets (x ∷ l) (suc k) vs ≡ x ∷ sets l k vs
sets_cons x l k [] = refl
sets_cons x l k (v ∷ vs) = sets_cons x (set l k v) (suc k) vs

pub sets_behind : (p l m : List ℕ) (k n : ℕ) (vs : List ℕ) → n ≡ length p + k → sets l k vs ≡ m → sets (p ++ l) n vs ≡ p ++ m
sets_behind [] l m k n vs e q = let same : n ≡ k = omega arith in ap (λ (i : ℕ). sets l i vs) same ∙ q
sets_behind (x ∷ p) l m k zero vs e q = absurd (omega arith)
sets_behind (x ∷ p) l m k (suc n) vs e q = sets_cons x (p ++ l) n vs ∙ ap (λ (t : List ℕ). x ∷ t) (sets_behind p l m k n vs (omega arith) q)

pub sets_over : (l r vs : List ℕ) → length vs ≡ length l → sets (l ++ r) 0 vs ≡ vs ++ r
sets_over [] r [] e = refl
sets_over [] r (v ∷ vs) e = absurd (omega arith)
sets_over (x ∷ l) r [] e = absurd (omega arith)
sets_over (x ∷ l) r (v ∷ vs) e = sets_cons v (l ++ r) 0 vs ∙ ap (λ (t : List ℕ). v ∷ t) (sets_over l r vs (omega arith))

pub sets_part : (l vs ws : List ℕ) (at k : ℕ) → vs ≡ ws → length ws ≡ k → at + k ≤ length l → put_mid at k l vs ≡ sets l at ws
sets_part l vs ws at k same size h = grind (arith, common_steps, sets-eq ws l at)
