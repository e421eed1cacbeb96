-- Words for tally.rt: what is settled along the lists. They are no part of the rules: the laws tie them to the rules' words.
--     HasJust P n                the stored list n is sound, and has just the numbers with P
--     Echoed v h c y             y is in v y of h lists, a third, and not in c; Candidate v h c y: y is in c, or in two thirds of them
--     Settles v h c x r          the numbers below x are settled: r has the echoes and the candidates so far
--     Crowd P                    more than 64 numbers have P
--     TooMany v h c              more than 64 would be echoed, or be candidates
--     SettlesOn v h c x o r      the numbers up to x are settled, or, where o is none, there are too many
--     Settleable r x n h         what settling x, which is in n of h lists, finds
--     Startable r h              what settling starts from: sound candidates and no echoes
--     OneList w                  the numbers of w rise and are above 0
--     Sorts v h c o r            all numbers are settled, or, where o is none, there are too many
--     alone w m y                how many sent a list with y, where m sent w and nobody another
--     SettlesNext, SortsAll, SortsOne      the same of one number, of the open lists and of one list
--     Tallies s b o r            so it is with the numbers that the state s receives with the tray b
--     GrowsLists s b r t         so it is with the state t that the growing of the lists of s gives; r says whether they fit
use Rattle.std.specs.Prelude.{ℕ, ◌+◌, ◌<◌, ◌≤◌, Bool, true, false, cond, ◌&&◌, List, [], ◌≡◌, ◌⊎◌, ◌↔◌, leb, length, Option, Some, None}
use Rattle.wire.specs.Limits.{max_numbers}
use Rattle.wire.specs.Numbers.{stored, listed}
use Rattle.controller.specs.Lists.{In, mem, Rising}
use Rattle.controller.specs.State.{view, bit_part, state_from, sound_list}
use Rattle.controller.specs.Thirds.{third, two_thirds}
use Rattle.controller.specs.Received.{lists}
use Rattle.controller.specs.Rotation.{echoed, candidates_after, tally}
use Rattle.controller.specs.Work.Lists.{below}
use Rattle.controller.specs.Work.Received.{received_by}
use Rattle.controller.specs.Work.Opened.{weighed_in}
use Rattle.controller.specs.declared.open_list.OpenLists.{OpenLists}
use Rattle.controller.specs.declared.state.State.{State}
use Rattle.controller.specs.declared.tally.Settled.{Settled}
use Rattle.wire.specs.declared.frame.Numbers.{Numbers}

pub record HasJust (P : ℕ → Type 0) (n : Numbers) : Type 0 where
  pub sound : sound_list n ≡ true
  pub has : (y : ℕ) → In y (listed n) ↔ P y

-- "the numbers that reach a third and were not candidates"
abbrev pub Echoed : (ℕ → ℕ) → ℕ → List ℕ → ℕ → Type 0
Echoed v h c y = (third (v y) h ≡ true) × (¬ In y c)

-- the candidates, with those "that reach two thirds"
abbrev pub Candidate : (ℕ → ℕ) → ℕ → List ℕ → ℕ → Type 0
Candidate v h c y = In y c ⊎ (two_thirds (v y) h ≡ true)

pub record Settles (v : ℕ → ℕ) (h : ℕ) (c : List ℕ) (x : ℕ) (r : Settled) : Type 0 where
  pub echoes : HasJust (λ y. (y < x) × Echoed v h c y) r.echoed
  pub candidates : HasJust (λ y. In y c ⊎ ((y < x) × (two_thirds (v y) h ≡ true))) r.candidates
  pub place : r.place ≤ below x (listed r.candidates)

abbrev pub Crowd : (ℕ → Type 0) → Type 0
Crowd P = (l : List ℕ) × Rising l × (max_numbers < length l) × ((y : ℕ) → In y l → P y)

abbrev pub TooMany : (ℕ → ℕ) → ℕ → List ℕ → Type 0
TooMany v h c = Crowd (Echoed v h c) ⊎ Crowd (Candidate v h c)

abbrev pub SettlesOn : (ℕ → ℕ) → ℕ → List ℕ → ℕ → Option Unit → Settled → Type 0
SettlesOn v h c x (Some u) r = Settles v h c (x + 1) r
SettlesOn v h c x None r = TooMany v h c

pub record Settleable (r : Settled) (x count h : ℕ) : Type 0 where
  pub echoes : sound_list r.echoed ≡ true
  pub candidates : sound_list r.candidates ≡ true
  pub place : r.place ≤ below x (listed r.candidates)
  pub few : count ≤ max_numbers
  pub most : h ≤ max_numbers
  pub some : 0 < h
  pub positive : 0 < count → 0 < x

pub record Startable (r : Settled) (h : ℕ) : Type 0 where
  pub most : h ≤ max_numbers
  pub some : 0 < h
  pub empty : r.echoed ≡ stored []
  pub candidates : sound_list r.candidates ≡ true
  pub place : r.place ≡ 0

pub record OneList (own : List ℕ) : Type 0 where
  pub rises : Rising own
  pub positive : (y : ℕ) → In y own → 0 < y

abbrev pub Sorts : (ℕ → ℕ) → ℕ → List ℕ → Option Unit → Settled → Type 0
Sorts v h c (Some u) r = HasJust (Echoed v h c) r.echoed × HasJust (Candidate v h c) r.candidates
Sorts v h c None r = TooMany v h c

-- settling x, which is in `count` of h lists, goes one number further
abbrev pub SettlesNext : Settled → ℕ → ℕ → ℕ → Option Unit → Settled → Type 0
SettlesNext s x count h o r = (v : ℕ → ℕ) (c : List ℕ) → v x ≡ count → Settles v h c x s → SettlesOn v h c x o r

-- the numbers of the open lists are settled, from the candidates that were
abbrev pub SortsAll : OpenLists → ℕ → Numbers → Option Unit → Settled → Type 0
SortsAll l h known o r = Sorts (weighed_in l) h (listed known) o r

abbrev pub alone : List ℕ → ℕ → ℕ → ℕ
alone own m y = cond (mem y own) m 0

-- those of one list that m sent are settled
abbrev pub SortsOne : List ℕ → ℕ → ℕ → Numbers → Option Unit → Settled → Type 0
SortsOne own m h known o r = Sorts (alone own m) h (listed known) o r

abbrev pub Tallies : State → List ℕ → Option Unit → Settled → Type 0
Tallies s b o r = Sorts (tally (lists (received_by s b))) (length (received_by s b).heard) (listed s.candidates) o r

-- the two lists that making round 3 + 3r gives
abbrev pub candidates_of : State → List ℕ → List ℕ
candidates_of s b = candidates_after (view s).rotor (lists (received_by s b))

abbrev pub echoes_of : State → List ℕ → List ℕ
echoes_of s b = echoed (view s).rotor (lists (received_by s b))

pub record GrowsLists (s : State) (b : List ℕ) (r : Bool) (t : State) : Type 0 where
  pub fits : r ≡ (leb (length (candidates_of s b)) max_numbers && leb (length (echoes_of s b)) max_numbers)
  pub grown :
      r ≡ true
      → t ≡ state_from s.own s.round (bit_part s) s.king s.heard (stored (candidates_of s b)) (stored (echoes_of s b)) s.since
  pub kept : r ≡ false → t ≡ s
