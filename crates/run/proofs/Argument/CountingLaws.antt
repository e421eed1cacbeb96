-- What a third and two thirds of those heard tell about correct senders, for every number heard.
use Rattle.std.specs.Prelude.{ℕ, ◌+◌, ◌≤◌, ◌<◌, ◌≡◌, refl, Bool, true, false, not, List, ◌++◌, length}
use Rattle.std.proofs.Common.{sym, ◌∙◌, ap, arith, length-append}
use Rattle.std.proofs.Math.Decide.{dec_le}
use Rattle.controller.specs.Lists.{In, Inside, NoRepeats, mem, count_if}
use Rattle.controller.specs.Laws.Thirds as thirds
use Rattle.controller.specs.Laws.Lists.{mem_in, no_repeats_left, inside_length, count_inside, count_split, count_all, count_some}
use Rattle.run.proofs.Argument.Counting.{Third, TwoThirds, Few, Heard, Bounds}

pub third_decidable : (c h : ℕ) → Dec (Third c h)
third_decidable c h = dec_le _ _

-- ---- over plain numbers

pub two_thirds_then_third : (c h : ℕ) → TwoThirds c h → Third c h
two_thirds_then_third c h two = (thirds.third_is c h).0 (thirds.two_thirds_third c h ((thirds.two_thirds_is c h).1 two))

module _ {g f : ℕ} (few : Few f g) where
  -- what reaches a third, some correct one has sent
  pub third_positive : {h a c : ℕ} → Bounds g f h a c → Third c h → 0 < a
  third_positive bounds third = omega arith

  -- what reaches two thirds at one receiver reaches a third at every other
  pub two_thirds_elsewhere : {h i a c d : ℕ} → Bounds g f h a c → Bounds g f i a d → TwoThirds c h → Third d i
  two_thirds_elsewhere here there two = omega arith

  -- what all correct ones have sent reaches two thirds
  pub all_two_thirds : {h c : ℕ} → Bounds g f h g c → TwoThirds c h
  all_two_thirds bounds = omega arith

  -- two things that no correct one sends together do not both reach two thirds, even at two receivers
  pub two_thirds_not_both : {h i a b c d : ℕ} → a + b ≤ g → Bounds g f h a c → Bounds g f i b d → TwoThirds c h → TwoThirds d i → ⊥
  two_thirds_not_both apart here there two other = omega arith

-- ---- over lists of those heard: the same four, for what a receiver has from each sender

module _ {correct faulty : List ℕ} (apart : NoRepeats (correct ++ faulty)) where
  -- a receiver's count over those heard keeps within the bounds, if it has from the correct ones what they sent
  pub count_bounds : (sent had : ℕ → Bool) {heard : List ℕ} → Heard correct faulty heard → ((s : ℕ) → In s correct → had s ≡ sent s)
      → Bounds (length correct) (length faulty) (length heard) (count_if sent correct) (count_if had heard)
  count_bounds sent had {heard} h same =
      let once = no_repeats_left correct faulty apart in
      record {
        heard = omega (arith, inside_length heard h.once h.within, length-append correct faulty);
        least = count_inside sent had correct once h.whole (λ s i t. same s i ∙ t);
        most = omega (
          arith,
          count_split sent correct,
          count_split had heard,
          count_inside (λ s. not (sent s)) (λ s. not (had s)) correct once h.whole (λ s i t. ap not (same s i) ∙ t),
        );
      }

  module _ (few : Few (length faulty) (length correct)) where
    pub third_correct : (had : ℕ → Bool) {heard : List ℕ} → Heard correct faulty heard
        → Third (count_if had heard) (length heard) → (s : ℕ) × In s correct × (had s ≡ true)
    third_correct had h third = count_some had correct (third_positive few (count_bounds had had h (λ s i. refl)) third)

    pub two_thirds_carry : (here there : ℕ → Bool) {heard other : List ℕ} → Heard correct faulty heard → Heard correct faulty other
        → ((s : ℕ) → In s correct → here s ≡ there s) → TwoThirds (count_if here heard) (length heard) → Third (count_if there other) (length other)
    two_thirds_carry here there h k same two =
        two_thirds_elsewhere few (count_bounds here here h (λ s i. refl)) (count_bounds here there k (λ s i. sym (same s i))) two

    pub all_reach : (had : ℕ → Bool) {heard : List ℕ} → Heard correct faulty heard
        → ((s : ℕ) → In s correct → had s ≡ true) → TwoThirds (count_if had heard) (length heard)
    all_reach had h every = all_two_thirds few (rw (count_all had correct every) at (count_bounds had had h (λ s i. refl)))

    pub two_thirds_apart : (here there : ℕ → Bool) {heard other : List ℕ} → Heard correct faulty heard → Heard correct faulty other
        → ((s : ℕ) → In s correct → here s ≡ true → there s ≡ false)
        → TwoThirds (count_if here heard) (length heard) → TwoThirds (count_if there other) (length other) → ⊥
    two_thirds_apart here there h k exclude two other =
        let once = no_repeats_left correct faulty apart in
        let disjoint = count_inside here (λ s. not (there s)) correct once (λ s i. i) (λ s i t. ap not (exclude s i t)) in
        let sum : count_if here correct + count_if there correct ≤ length correct = omega (arith, count_split there correct) in
        two_thirds_not_both few sum (count_bounds here here h (λ s i. refl)) (count_bounds there there k (λ s i. refl)) two other

    -- a number in a third of the lists is in some correct one's list
    pub third_inside : (lists : ℕ → List ℕ) {heard all : List ℕ} → Heard correct faulty heard → ((s : ℕ) → In s correct → Inside (lists s) all)
        → (x : ℕ) → Third (count_if (λ s. mem x (lists s)) heard) (length heard) → In x all
    third_inside lists h inside x third =
        let s = third_correct (λ s. mem x (lists s)) h third in
        inside s.0 s.1 x (mem_in (lists s.0) s.2)
