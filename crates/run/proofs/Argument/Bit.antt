-- One bit instance over a coordinator rotation: values, proposals, the king's opinion, the decision.
-- Serves document 01's "From one tray to the next frame" ((a) and (c) of making round 3 + 3r, making rounds 4 + 3r and 5 + 3r) and "The run of demand 3".
--     BitInstance              what each one has of the bit in each phase; a bit is 0 or 1, and 2 stands for none
--     ValueTwoThirds R B p r b         of those whom p has heard by then, two thirds sent the value b
--     ProposalThird R B p r b          a third proposed b; ProposalTwoThirds likewise
--     BitRules R B             document 01's rules for the bit, as equations on counts
--     Agreed R B l b r         those of l that work the tray of round 2 + 3r all have the bit b after it
-- What a rule says of phase r it says of those that work the tray of round 5 + 3r: they have worked the two trays before it.
use Rattle.std.specs.Prelude.{ℕ, suc, ◌+◌, ◌≤◌, ◌<◌, ◌≡◌, Bool, true, false, ◌⊎◌, ◌↔◌, List, eqb, length}
use Rattle.controller.specs.Lists.{In, count_if}
use Rattle.run.proofs.Argument.Counting.{Third, TwoThirds}
use Rattle.run.proofs.Argument.Rotation.{Rotation, member_count, Works}

pub record BitInstance : Type 0 where
  -- value_from p r s: the value that p has from s in the tray of round 3 + 3r
  pub value_from : ℕ → ℕ → ℕ → ℕ
  -- the proposal that p has from s in the tray of round 4 + 3r
  pub proposal_from : ℕ → ℕ → ℕ → ℕ
  -- the opinion that p has from s in the tray of round 5 + 3r
  pub opinion_from : ℕ → ℕ → ℕ → ℕ
  -- what p sends in round 3 + 3r, or would send: its own bit
  pub value : ℕ → ℕ → ℕ
  -- what it sends in round 4 + 3r
  pub proposal : ℕ → ℕ → ℕ
  -- what it sends in round 5 + 3r
  pub opinion : ℕ → ℕ → ℕ
  -- p's own bit after making round 5 + 3r
  pub own : ℕ → ℕ → ℕ
  -- whether p is strong then
  pub strong : ℕ → ℕ → Bool
  -- p's decision before phase r; it means something only where p has decided
  pub decision : ℕ → ℕ → ℕ

module _ (R : Rotation) (B : BitInstance) where
  open R use {correct, observers, live, decided, heard_value, heard_propose, king}
  open B use {value_from, proposal_from, opinion_from, value, proposal, opinion, own, strong, decision}

  -- the value that p has from s is b; the proposal is b
  abbrev pub values : ℕ → ℕ → ℕ → ℕ → Bool
  values p r b s = eqb (value_from p r s) b

  abbrev pub proposals : ℕ → ℕ → ℕ → ℕ → Bool
  proposals p r b s = eqb (proposal_from p r s) b

  abbrev pub ValueTwoThirds : ℕ → ℕ → ℕ → Type 0
  ValueTwoThirds p r b = TwoThirds (count_if (values p r b) (heard_value p r)) (length (heard_value p r))

  abbrev pub ProposalThird : ℕ → ℕ → ℕ → Type 0
  ProposalThird p r b = Third (count_if (proposals p r b) (heard_propose p r)) (length (heard_propose p r))

  abbrev pub ProposalTwoThirds : ℕ → ℕ → ℕ → Type 0
  ProposalTwoThirds p r b = TwoThirds (count_if (proposals p r b) (heard_propose p r)) (length (heard_propose p r))

  pub record BitRules : Type 0 where
    -- from a correct one at work p has the value that it sent
    pub value_of : {p r s : ℕ} → Works R p (suc r) → In s correct → live s (suc r) ≡ true → value_from p r s ≡ value s r
    -- from one gone quiet it has the value that p itself sent
    pub value_own : {p r s : ℕ} → Works R p (suc r) → In s correct → live s (suc r) ≡ false → value_from p r s ≡ value p r
    -- from a correct one at work p has the proposal that it sent
    pub proposal_of : {p r s : ℕ} → Works R p (suc r) → In s correct → live s (suc r) ≡ true → proposal_from p r s ≡ proposal s r
    -- from one gone quiet it has the proposal that p itself sent
    pub proposal_own : {p r s : ℕ} → Works R p (suc r) → In s correct → live s (suc r) ≡ false → proposal_from p r s ≡ proposal p r
    -- from a correct one at work p has the opinion that it sent; of one gone quiet nothing is said
    pub opinion_of : {p r s : ℕ} → Works R p (suc r) → In s correct → live s (suc r) ≡ true → opinion_from p r s ≡ opinion s r
    -- the first value is the input, a bit
    pub brought : {p : ℕ} → In p observers → value p 0 < 2
    -- proposed is the bit whose values reach two thirds
    pub proposed : {p r b : ℕ} → Works R p (suc r) → b < 2 → (proposal p r ≡ b) ↔ ValueTwoThirds p r b
    -- an undecided one takes over a bit if its proposals reach a third and those of the other bit do not
    pub adopted : {p r : ℕ} (b c : ℕ) → Works R p (suc r) → decided p (suc r) ≡ false → b + c ≡ 1
        → ProposalThird p r b → (¬ ProposalThird p r c) → own p r ≡ b
    -- it keeps its bit if both bits' proposals reach a third, or neither's
    pub kept : {p r : ℕ} → Works R p (suc r) → decided p (suc r) ≡ false → (ProposalThird p r 0 ↔ ProposalThird p r 1) → own p r ≡ value p r
    -- a decided one keeps its bit
    pub fixed : {p r : ℕ} → Works R p (suc r) → decided p (suc r) ≡ true → own p r ≡ value p r
    -- strong is who has two thirds of the proposals for its own bit
    pub strengthened : {p r : ℕ} → Works R p (suc r) → (strong p r ≡ true) ↔ ProposalTwoThirds p r (own p r)
    -- an undecided one that names itself king gives its bit as opinion
    pub opined : {p r : ℕ} → Works R p (suc r) → In p correct → decided p (suc r) ≡ false → king p r ≡ p → opinion p r ≡ own p r
    -- rule (a): who is undecided and not strong takes the king's opinion if that is a bit
    pub taken : {p r : ℕ} → Works R p (suc r) → decided p (suc r) ≡ false → strong p r ≡ false → opinion_from p r (king p r) < 2
        → value p (suc r) ≡ opinion_from p r (king p r)
    -- otherwise it keeps its own bit
    pub retained : {p r : ℕ} → Works R p (suc r) → (decided p (suc r) ≡ true) ⊎ (strong p r ≡ true) ⊎ (2 ≤ opinion_from p r (king p r))
        → value p (suc r) ≡ own p r
    -- who decides takes its own bit
    pub decision_own : {p r : ℕ} → Works R p r → decided p r ≡ false → decided p (suc r) ≡ true → decision p (suc r) ≡ value p r
    -- a decision is kept
    pub decision_held : {p r : ℕ} → In p observers → r ≤ member_count R → decided p r ≡ true → decision p (suc r) ≡ decision p r

  -- ---- what the laws are about

  abbrev pub Agreed : List ℕ → ℕ → ℕ → Type 0
  Agreed l b r = (p : ℕ) → In p l → Works R p r → value p r ≡ b
