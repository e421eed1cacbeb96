-- `controller::bit::bit_taken` meets its contract: each branch gives the tests of `bit_taken` their values; round 3 is the first
-- with a phase before it, and the frame sent before a value is a turn.
use Rattle.std.specs.Prelude.{ℕ, ◌+◌, ◌/◌, ◌%◌, ◌≤◌, ◌<◌, true, cond, ◌≡◌, refl, leb, ltb, Option, Some, None, IfSome, unwrap_or}
use Rattle.std.proofs.Common.{◌∙◌, arith, le-leb, lt-ltb, le-ltb, eq-eqb, ne_eqb}
use Rattle.controller.specs.Bit.{bit_taken}
use Rattle.controller.specs.Laws.Rules.{kind_later}
use Rattle.wire.specs.Frame.{kind_of, bit_chosen}
use Rattle.controller.proofs.bit.bit_taken.Goals.{then-state-lt3-via-then-state-lt3, then-state-lt3-via-else-state-lt3+then-state-ne0}
use Rattle.controller.proofs.bit.bit_taken.Goals as goal

turn_before : (t : ℕ) → 3 ≤ t → kind_of (t + 1) ≡ 3 → kind_of t ≡ 5
turn_before t l k = kind_later t 2 l (omega (arith, k, kind_later (t + 1) ((t + 1) % 3) (omega arith) refl))

phased : (t : ℕ) → 3 ≤ t → ltb 0 (t / 3) ≡ true
phased t l = let p : 0 < t / 3 = omega arith in lt-ltb 0 (t / 3) p

-- the king's opinion o, which is k, or else the own bit
chosen : (o : Option ℕ) (k own : ℕ) → bit_chosen o ≡ k → IfSome o (λ b. b ≤ 1) → unwrap_or o own ≡ cond (leb k 1) k own
chosen (Some b) k own is few = rw (← is, le-leb b 1 few)
chosen None k own is few = rw (← is)

pub returns-then-state-lt3 : goal.returns-then-state-lt3
unfolding bit_taken
returns-then-state-lt3 c =
    elim c.then-state-lt3.branch [
      | then-state-lt3-via-then-state-lt3 w ↦ let first : c.args.state.now.round / 3 ≤ 0 = omega arith in rw (le-ltb 0 _ first)
      | then-state-lt3-via-else-state-lt3+then-state-ne0 w ↦
          rw (phased _ w.if-state-lt3.false, c.requires.ready.active, ne_eqb _ _ w.if-state-ne0.true)
    ]

pub king_opinion-requires-clause-kind : goal.king_opinion-requires-clause-kind
king_opinion-requires-clause-kind c = turn_before c.args.state.now.round c.if-state-lt3.false c.requires.kind

pub returns : goal.returns
unfolding bit_taken
returns c =
    rw (phased _ c.if-state-lt3.false, c.requires.ready.active, eq-eqb _ _ c.if-state-ne0.false)
    (c.unwrap_or.ensures ∙ chosen c.king_opinion.result _ _ c.king_opinion.ensures.opinion c.king_opinion.ensures.bit)
