-- The coordinator rotation: who is heard, who becomes a candidate, who is named king and who has decided, phase by phase. No bit is mentioned.
-- Serves document 01's "From one tray to the next frame" (making round 2, and (b) and (c) of making round 3 + 3r) and "The run of demand 3".
--     Rotation                 what each one has in each phase
--     Works R p r              p works the tray of round 2 + 3r, a round up to which the guarantee holds
--     ListThird R p r x        of those whom p has heard by then, a third sent a list with x; ListTwoThirds likewise
--     RotationRules R          document 01's rules, and the line's guarantee, as equations on counts
--     AllWork R r              all observers work the tray of round 2 + 3r
--     Undecided R r            nobody has decided before phase r
--     Relayed R x r            if anybody has x as a candidate before phase r, everybody has it after
--     CommonKing R k r         nobody decides up to phase r, and in it all name k
-- Phase r makes rounds 3 + 3r, 4 + 3r and 5 + 3r; "before phase r" is before round 3 + 3r is made. The rules are stated for whoever receives, sender or not,
-- and of those at work: by document 02, "A7. Let decided controllers go quiet", those who have not decided.
use Rattle.std.specs.Prelude.{ℕ, suc, ◌≤◌, ◌<◌, ◌≡◌, Bool, true, false, ◌⊎◌, ◌↔◌, List, [], ◌++◌, length, get_or}
use Rattle.controller.specs.Lists.{In, Inside, NoRepeats, Rising, mem, count_if}
use Rattle.run.proofs.Argument.Counting.{Third, TwoThirds, Few, Heard}

pub record Rotation : Type 0 where
  -- the numbers of the correct ones, document 01's proper ones
  pub correct : List ℕ
  -- the numbers of the faulty ones
  pub faulty : List ℕ
  -- whoever follows the rules on what it receives: the correct ones, and perhaps a listener, which has no number and goes by 0
  pub observers : List ℕ
  -- live p r: p works the tray of round 2 + 3r
  pub live : ℕ → ℕ → Bool
  -- decided p r: p has a decision before phase r
  pub decided : ℕ → ℕ → Bool
  -- whom p has heard, the senders of the tray of round 2 + 3r included
  pub heard_turn : ℕ → ℕ → List ℕ
  -- the same for the tray of round 3 + 3r
  pub heard_value : ℕ → ℕ → List ℕ
  -- the same for the tray of round 4 + 3r
  pub heard_propose : ℕ → ℕ → List ℕ
  -- list_from p r s: the list that p has from s in the tray of round 2 + 3r, a roster's or a turn's
  pub list_from : ℕ → ℕ → ℕ → List ℕ
  -- the list that p sends in round 2 + 3r, or would send
  pub echoes : ℕ → ℕ → List ℕ
  -- p's candidates before phase r
  pub candidates : ℕ → ℕ → List ℕ
  -- the king that p names in making round 3 + 3r
  pub king : ℕ → ℕ → ℕ

module _ (R : Rotation) where
  open R use {correct, faulty, observers, live, decided, heard_turn, heard_value, heard_propose, list_from, echoes, candidates, king}

  abbrev pub members : List ℕ
  members = correct ++ faulty

  -- document 01's n
  abbrev pub member_count : ℕ
  member_count = length members

  pub record Works (p r : ℕ) : Type 0 where
    pub observes : In p observers
    pub timely : r ≤ member_count
    pub alive : live p r ≡ true

  -- the list that p has from s, in the tray of round 2 + 3r, has x
  abbrev pub mentions : ℕ → ℕ → ℕ → ℕ → Bool
  mentions p r x s = mem x (list_from p r s)

  abbrev pub ListThird : ℕ → ℕ → ℕ → Type 0
  ListThird p r x = Third (count_if (mentions p r x) (heard_turn p r)) (length (heard_turn p r))

  abbrev pub ListTwoThirds : ℕ → ℕ → ℕ → Type 0
  ListTwoThirds p r x = TwoThirds (count_if (mentions p r x) (heard_turn p r)) (length (heard_turn p r))

  pub record RotationRules : Type 0 where
    -- all numbers differ
    pub apart : NoRepeats members
    -- the faulty ones are few
    pub few : Few (length faulty) (length correct)
    -- the correct ones observe
    pub watch : Inside correct observers
    -- nobody starts decided
    pub fresh : {p : ℕ} → In p observers → decided p 0 ≡ false
    -- decided stays decided
    pub stays : {p r : ℕ} → In p observers → r ≤ member_count → decided p r ≡ true → decided p (suc r) ≡ true
    -- the undecided work
    pub awake : {p r : ℕ} → In p observers → r ≤ member_count → decided p r ≡ false → live p r ≡ true
    -- who works has worked before
    pub earlier : {p r : ℕ} → Works p (suc r) → live p r ≡ true
    -- who works the tray of round 2 + 3r has then heard every correct one, and nobody from outside
    pub heard_turn_lem : {p r : ℕ} → Works p r → Heard correct faulty (heard_turn p r)
    -- the same for the tray of round 3 + 3r
    pub heard_value_lem : {p r : ℕ} → Works p (suc r) → Heard correct faulty (heard_value p r)
    -- the same for the tray of round 4 + 3r
    pub heard_propose_lem : {p r : ℕ} → Works p (suc r) → Heard correct faulty (heard_propose p r)
    -- from a correct one at work p has the list that it sent
    pub list_of : {p r s : ℕ} → Works p r → In s correct → live s r ≡ true → list_from p r s ≡ echoes s r
    -- from one gone quiet it has the list that p itself sent
    pub list_own : {p r s : ℕ} → Works p r → In s correct → live s r ≡ false → list_from p r s ≡ echoes p r
    -- each roster has every correct one
    pub roster_all : {p k : ℕ} → In p observers → In k correct → In k (echoes p 0)
    -- no roster has anybody from outside
    pub roster_only : {p : ℕ} → In p observers → Inside (echoes p 0) members
    -- there are no candidates at first
    pub none : {p : ℕ} → In p observers → candidates p 0 ≡ []
    -- candidates rise strictly
    pub rising : {p r : ℕ} → Works p r → Rising (candidates p (suc r))
    -- echoed is what reaches a third and was not a candidate before
    pub echo : {p r x : ℕ} → Works p r → In x (echoes p (suc r)) ↔ ((¬ In x (candidates p r)) × ListThird p r x)
    -- a candidate is what was one, or reaches two thirds
    pub candidate : {p r x : ℕ} → Works p r → In x (candidates p (suc r)) ↔ (In x (candidates p r) ⊎ ListTwoThirds p r x)
    -- an undecided one decides if its candidates are then at most r
    pub decides : {p r : ℕ} → Works p r → decided p r ≡ false → (decided p (suc r) ≡ true) ↔ (length (candidates p (suc r)) ≤ r)
    -- still undecided, it names the candidate at place r, places from 0
    pub named : {p r : ℕ} → Works p r → decided p (suc r) ≡ false → king p r ≡ get_or (candidates p (suc r)) r 0

  -- ---- what the laws are about

  abbrev pub AllWork : ℕ → Type 0
  AllWork r = (p : ℕ) → In p observers → Works p r

  abbrev pub Undecided : ℕ → Type 0
  Undecided r = (p : ℕ) → In p observers → decided p r ≡ false

  abbrev pub Relayed : ℕ → ℕ → Type 0
  Relayed x r = (p q : ℕ) → In p observers → In q observers → In x (candidates p r) → In x (candidates q (suc r))

  pub record CommonKing (k r : ℕ) : Type 0 where
    pub early : r < member_count
    pub before : Undecided (suc r)
    pub all_name : (p : ℕ) → In p observers → king p r ≡ k
