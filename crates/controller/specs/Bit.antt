-- The bit: document 01, "From one tray to the next frame": (a) and the decision of making round 3 + 3r, making rounds 4 + 3r and 5 + 3r; and document 02,
-- "A7. Let decided controllers go quiet".
--     phase v              r, where round 3 + 3r is to be made
--     bit_taken v r        (a): the own bit, or the king's opinion
--     decision_after v r   (c): the decision
--     value_said v r       what is said with the value: the own bit, or nothing by one that has decided
--     proposal r           making round 4 + 3r: what is proposed
--     bit_adopted v r      making round 5 + 3r: the own bit, or the bit that was proposed
--     strong_after v r     making round 5 + 3r: strong
--     opinion v r          making round 5 + 3r: what is said
use Rattle.std.specs.Prelude.{ℕ, ◌/◌, Bool, not, cond, ◌&&◌, leb, ltb, eqb, length}
use Rattle.controller.specs.Thirds.{third, two_thirds}
use Rattle.controller.specs.State.{View, undecided}
use Rattle.controller.specs.Received.{Received, says, opinion_in, count, lists}
use Rattle.controller.specs.Rotation.{decides}

-- a state of round 2 + 3r is in phase r
abbrev pub phase : View → ℕ
phase v = v.round / 3

-- "the king's turn frame"
abbrev pub king_opinion : View → Received → ℕ
king_opinion v r = opinion_in (r.from v.rotor.king)

-- "If r ≥ 1, undecided, not strong, and the king's turn frame carries opinion 0 or 1, the own bit becomes that"
unfoldable pub bit_taken : View → Received → ℕ
bit_taken v r =
    cond (ltb 0 (phase v) && undecided v && eqb v.bit.strong 0 && leb (king_opinion v r) 1) (king_opinion v r) v.bit.own

-- the controller decides now
abbrev pub decides_now : View → Received → Bool
decides_now v r = decides (undecided v) (phase v) v.rotor (lists r)

-- "the decision is the own bit"
unfoldable pub decision_after : View → Received → ℕ
decision_after v r = cond (decides_now v r) (bit_taken v r) v.bit.decision

-- "A controller sends nothing from the round of its decision on: .. said is 2"
unfoldable pub value_said : View → Received → ℕ
value_said v r = cond (eqb (decision_after v r) 2) (bit_taken v r) 2

-- ---- values and proposals of a bit that reach a threshold

unfoldable pub value_two_thirds : Received → ℕ → Bool
value_two_thirds r b = two_thirds (count (says 3 b) r) (length r.heard)

unfoldable pub proposal_third : Received → ℕ → Bool
proposal_third r b = third (count (says 4 b) r) (length r.heard)

unfoldable pub proposal_two_thirds : Received → ℕ → Bool
proposal_two_thirds r b = two_thirds (count (says 4 b) r) (length r.heard)

-- "said is the bit whose values reach two thirds, else 2"
unfoldable pub proposal : Received → ℕ
proposal r = cond (value_two_thirds r 0) 0 (cond (value_two_thirds r 1) 1 2)

-- "if undecided and exactly one bit's proposals reach a third, the own bit becomes it"
unfoldable pub bit_adopted : View → Received → ℕ
bit_adopted v r =
    cond (undecided v && proposal_third r 0 && not (proposal_third r 1)) 0
    (cond (undecided v && proposal_third r 1 && not (proposal_third r 0)) 1
    v.bit.own)

-- "Strong is 1 exactly if proposals of the own bit reach two thirds"
unfoldable pub strong_after : View → Received → ℕ
strong_after v r = cond (proposal_two_thirds r (bit_adopted v r)) 1 0

-- "Said is the own bit if undecided and the king is oneself, else 2"
unfoldable pub opinion : View → Received → ℕ
opinion v r = cond (undecided v && eqb v.rotor.king v.own) (bit_adopted v r) 2
