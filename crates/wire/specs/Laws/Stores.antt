-- Runs of stores, as `lib.Seq.sets` has them.
--     sets_join       two that follow each other are one
--     sets_start      two that follow each other from the first byte on stand in front of the rest
use Rattle.std.proofs.lemmas.List.Edits.{sets, sets-eq}
use Rattle.std.specs.Prelude.{ℕ, suc, ◌+◌, ◌≤◌, List, [], ◌∷◌, ◌++◌, ◌≡◌, length, set, drop}
use Rattle.std.proofs.Common.{◌∙◌, add-zero, add-suc, suc-add}
use Rattle.std.proofs.Math.Nat.{zero-add}

pub sets_join : (l : List ℕ) (i : ℕ) (vs ws : List ℕ) → sets (sets l i vs) (i + length vs) ws ≡ sets l i (vs ++ ws)
sets_join l i [] ws = rw add-zero
sets_join l i (v ∷ vs) ws = rw (add-suc, ← suc-add i (length vs)) (sets_join (set l i v) (suc i) vs ws)

pub sets_start : (l vs ws : List ℕ) → length (vs ++ ws) ≤ length l → sets (sets l 0 vs) (length vs) ws ≡ (vs ++ ws) ++ drop (length (vs ++ ws)) l
sets_start l vs ws h = rw zero-add at (sets_join l 0 vs ws) ∙ rw zero-add at (sets-eq (vs ++ ws) l 0 (rw zero-add h))
