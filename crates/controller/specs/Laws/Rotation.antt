-- Laws of the coordinator rotation, in the paper's words: who is in the roster, who is echoed, who becomes a candidate.
use Rattle.std.specs.Prelude.{ℕ, ◌<◌, Bool, true, ◌&&◌, List, [], ◌∷◌, ◌⊎◌, ◌↔◌, ◌≡◌, length}
use Rattle.std.proofs.Math.Bool.{not, and-eq-true_iff}
use mathlib.Core.List.Memᴰ
use Rattle.std.proofs.Math.Logic.{inl, inr}
use Rattle.std.proofs.Common.{ap, arith}
use Rattle.std.proofs.lemmas.Bool.{not-true}
use Rattle.controller.specs.Lists.{In, Rising, mem, keep}
use Rattle.controller.specs.Thirds.{third, two_thirds}
use Rattle.controller.specs.State.{Rotor}
use Rattle.controller.specs.Received.{Received, ReceivedLists, says}
use Rattle.controller.specs.Rotation.{roster, tally, joined_lists, mentioned, echoed, joined, candidates_after}
use Rattle.controller.specs.Laws.Lists.{mem_in, out_mem, mem_out, in_or_not, count_some, keep_in, keep_rising, insert_all_in, insert_all_rising}
use Rattle.controller.specs.Laws.Thirds.{third_is, two_thirds_is}

-- ---- the roster

pub roster_in : {x : ℕ} (r : Received) → In x (roster r) ↔ (In x r.heard × (says 1 2 (r.from x) ≡ true))
unfolding roster
roster_in r = keep_in (λ (y : ℕ). says 1 2 (r.from y)) r.heard

pub roster_rising : (r : Received) → Rising r.heard → Rising (roster r)
unfolding roster
roster_rising r up = keep_rising (λ (y : ℕ). says 1 2 (r.from y)) r.heard up

-- ---- the numbers that some received list has

joined_lists_in : {x y : ℕ} (list : ℕ → List ℕ) {senders : List ℕ} → In y senders → In x (list y) → In x (joined_lists list senders)
joined_lists_in list (Memᴰ.head {xs = l} e) i = Memᴰ.append_left (joined_lists list l) (rw e at i)
joined_lists_in list (Memᴰ.tail {x = z} j) i = Memᴰ.append_right (list z) (joined_lists_in list j i)

joined_lists_from : {x : ℕ} (list : ℕ → List ℕ) (senders : List ℕ) → In x (joined_lists list senders) → (y : ℕ) × In x (list y)
joined_lists_from list [] i = absurd (Memᴰ.not-nil i)
joined_lists_from list (y ∷ l) i = elim (Memᴰ.append_cases (list y) i) [
  | inl j ↦ (y, j)
  | inr j ↦ joined_lists_from list l j
]

mentioned_rising : (l : ReceivedLists) → Rising (mentioned l)
unfolding mentioned
mentioned_rising l = insert_all_rising (joined_lists l.list l.heard) [] tt

-- a number that one list has is among them
mentioned_in : {x : ℕ} (l : ReceivedLists) → 0 < tally l x → In x (mentioned l)
unfolding mentioned tally
mentioned_in {x} l h =
    let s = count_some (λ (y : ℕ). mem x (l.list y)) l.heard h in
    (insert_all_in (joined_lists l.list l.heard) []).1 (inl (joined_lists_in l.list s.1 (mem_in (l.list s.0) s.2)))

-- no received list has a 0
abbrev pub Positive : ReceivedLists → Type 0
Positive l = (x y : ℕ) → In y (l.list x) → 0 < y

mentioned_positive : (l : ReceivedLists) → Positive l → (x : ℕ) → In x (mentioned l) → 0 < x
unfolding mentioned
mentioned_positive l h x i = elim ((insert_all_in (joined_lists l.list l.heard) []).0 i) [
  | inl j ↦ let s = joined_lists_from l.list l.heard j in h s.0 x s.1
  | inr j ↦ absurd (Memᴰ.not-nil j)
]

-- ---- those of them that pass a test and were not candidates

-- where all that pass the test are among them
new_in : {x : ℕ} (f : ℕ → Bool) (c l : List ℕ) → (f x ≡ true → In x l)
    → In x (keep (λ (y : ℕ). f y && not (mem y c)) l) ↔ ((f x ≡ true) × (¬ In x c))
new_in {x} f c l among = (
  λ i.
      let k = (keep_in (λ (y : ℕ). f y && not (mem y c)) l).0 i in
      let e = (and-eq-true_iff (f x) (not (mem x c))).0 k.1 in
      (e.0, mem_out c (not-true (mem x c) e.1)),
  λ p. (keep_in (λ (y : ℕ). f y && not (mem y c)) l).1 (among p.0, (and-eq-true_iff (f x) (not (mem x c))).1 (p.0, ap not (out_mem c p.1))),
)

module _ (c : Rotor) (l : ReceivedLists) where
  -- x is an echo exactly if it reaches a third and was not a candidate
  pub echoed_in : {x : ℕ} → 0 < length l.heard
      → In x (echoed c l) ↔ ((third (tally l x) (length l.heard) ≡ true) × (¬ In x c.candidates))
  unfolding echoed
  echoed_in {x} pos =
      new_in (λ (y : ℕ). third (tally l y) (length l.heard)) c.candidates (mentioned l)
      (λ t. mentioned_in l (omega (arith, (third_is (tally l x) (length l.heard)).0 t)))

  pub echoed_rising : Rising (echoed c l)
  unfolding echoed
  echoed_rising =
      keep_rising (λ (y : ℕ). third (tally l y) (length l.heard) && not (mem y c.candidates)) (mentioned l) (mentioned_rising l)

  -- x joins exactly if it reaches two thirds and was not a candidate
  joined_in : {x : ℕ} → 0 < length l.heard
      → In x (joined c l) ↔ ((two_thirds (tally l x) (length l.heard) ≡ true) × (¬ In x c.candidates))
  unfolding joined
  joined_in {x} pos =
      new_in (λ (y : ℕ). two_thirds (tally l y) (length l.heard)) c.candidates (mentioned l)
      (λ t. mentioned_in l (omega (arith, (two_thirds_is (tally l x) (length l.heard)).0 t)))

  -- x is a candidate exactly if it was one or reaches two thirds
  pub candidates_in_lem : {x : ℕ} → 0 < length l.heard
      → In x (candidates_after c l) ↔ (In x c.candidates ⊎ (two_thirds (tally l x) (length l.heard) ≡ true))
  unfolding candidates_after
  candidates_in_lem {x} pos =
      let all = insert_all_in {x = x} (joined c l) c.candidates in (
        λ i. elim (all.0 i) [ inl j ↦ inr ((joined_in pos).0 j).0 | inr j ↦ inl j ],
        λ p. elim p [
          | inl j ↦ all.1 (inr j)
          | inr t ↦ elim (in_or_not x c.candidates) [ inl j ↦ all.1 (inr j) | inr new ↦ all.1 (inl ((joined_in pos).1 (t, new))) ]
        ],
      )

  pub candidates_rising : Rising c.candidates → Rising (candidates_after c l)
  unfolding candidates_after
  candidates_rising up = insert_all_rising (joined c l) c.candidates up

  -- the numbers in the new lists are above 0
  pub echoed_positive : Positive l → (x : ℕ) → In x (echoed c l) → 0 < x
  unfolding echoed
  echoed_positive h x i =
      mentioned_positive l h x ((keep_in (λ (y : ℕ). third (tally l y) (length l.heard) && not (mem y c.candidates)) (mentioned l)).0 i).0

  pub candidates_positive : Positive l → ((x : ℕ) → In x c.candidates → 0 < x) → (x : ℕ) → In x (candidates_after c l) → 0 < x
  unfolding candidates_after joined
  candidates_positive h old x i = elim ((insert_all_in (joined c l) c.candidates).0 i) [
    | inl j ↦
        mentioned_positive l h x
        ((keep_in (λ (y : ℕ). two_thirds (tally l y) (length l.heard) && not (mem y c.candidates)) (mentioned l)).0 j).0
    | inr j ↦ old x j
  ]
