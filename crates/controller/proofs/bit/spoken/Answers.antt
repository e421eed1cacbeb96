-- `controller::bit::spoken` meets its contract: the bit, strong and said are those of the rules, since the two counts are; an own bit that is not 0 is 1.
use Rattle.std.specs.Prelude.{ℕ, ◌≤◌, true, cond, ◌≢◌, ◌≡◌, eqb, length}
use Rattle.std.proofs.Common.{◌∙◌, arith}
use Rattle.controller.specs.Bit.{proposal_third, proposal_two_thirds, bit_adopted, strong_after, opinion}
use Rattle.controller.specs.Laws.Rules.{bit_adopted_bound}
use Rattle.controller.specs.Received.{Received, says, count}
use Rattle.controller.specs.State.{View, view, undecided}
use Rattle.controller.specs.Work.Received.{CountsBits}
use Rattle.controller.specs.Work.Bit.{adopted_from, TurnsBit}
use Rattle.controller.specs.Thirds.{two_thirds}
use Rattle.controller.specs.declared.counts.Counts.{Counts}
use Rattle.controller.proofs.bit.spoken.Goals.{then-bit-eq0, else-bit-eq0}
use Rattle.controller.proofs.bit.spoken.Goals as goal

module _ (v : View) {m : Received} {n : Counts} {h b d : ℕ} (active : undecided v ≡ true) (counts : CountsBits 4 m n) (heard : h ≡ length m.heard)
    (bit : b ≡ adopted_from v.bit.own n.zeros n.ones h) (said : d ≡ cond (eqb v.rotor.king v.own) b 2) where
  adopted_is : b ≡ bit_adopted v m
  unfolding adopted_from bit_adopted proposal_third
  adopted_is = bit ∙ rw (active, heard, counts.zeros, counts.ones)

  -- s is the strong of the bit a, with k proposals
  turned : (a k s : ℕ) → b ≡ a → k ≡ count (says 4 a) m → s ≡ cond (two_thirds k h) 1 0 → TurnsBit v m (record { bit = b; strong = s; said = d })
  unfolding strong_after proposal_two_thirds opinion
  turned a k s e counted strong =
      record { bit = adopted_is; strong = strong ∙ rw (← adopted_is, e, counted, heard); said = said ∙ rw (active, ← adopted_is) }

  turned_zero : (k s : ℕ) → b ≡ 0 → k ≡ n.zeros → s ≡ cond (two_thirds k h) 1 0 → TurnsBit v m (record { bit = b; strong = s; said = d })
  turned_zero k s e these strong = turned 0 k s e (these ∙ counts.zeros) strong

  turned_one : (k s : ℕ) → v.bit.own ≤ 1 → b ≢ 0 → k ≡ n.ones → s ≡ cond (two_thirds k h) 1 0 → TurnsBit v m (record { bit = b; strong = s; said = d })
  turned_one k s own e these strong = turned 1 k s (omega (arith, adopted_is, bit_adopted_bound v m own)) (these ∙ counts.ones) strong

pub returns : goal.returns
returns c r active counts heard =
    let v = view c.args.state.now in
    let bit = c.adopted-bit.ensures in
    let said = c.opinion_of.ensures in
    elim c.if-bit-eq0.branch [
      | then-bit-eq0 w ↦ turned_zero v active counts heard bit said _ _ w.if-bit-eq0.true w.count-is c.strong_of.ensures
      | else-bit-eq0 w ↦ turned_one v active counts heard bit said _ _ c.requires.bit w.if-bit-eq0.false w.count-is c.strong_of.ensures
    ]
