-- Words for bit.rt: the bit, from counts. They are no part of the rules: the laws tie them to the rules' words.
--     proposed_from z o h      the bit whose values, z and o of h, reach two thirds
--     adopted_from b z o h     the own bit b, or the only bit whose proposals, z and o of h, reach a third
--     TurnsBit v r t           t has the bit, strong and said that making round 5 + 3r gives, where r was received
--     Turns s n t              so it is with the state s, if it has not decided, where n has the counts of proposals among those heard
use Rattle.std.specs.Prelude.{ℕ, true, not, cond, ◌&&◌, ◌≡◌, length}
use Rattle.controller.specs.State.{View, undecided, view}
use Rattle.controller.specs.Thirds.{third, two_thirds}
use Rattle.controller.specs.Received.{Received}
use Rattle.controller.specs.Bit.{bit_adopted, strong_after, opinion}
use Rattle.controller.specs.declared.bit.Turn.{Turn}
use Rattle.controller.specs.declared.counts.Counts.{Counts}
use Rattle.controller.specs.declared.state.State.{State}
use Rattle.controller.specs.Work.Received.{CountsBits}

unfoldable pub proposed_from : ℕ → ℕ → ℕ → ℕ
proposed_from zeros ones h = cond (two_thirds zeros h) 0 (cond (two_thirds ones h) 1 2)

unfoldable pub adopted_from : ℕ → ℕ → ℕ → ℕ → ℕ
adopted_from bit zeros ones h = cond (third zeros h && not (third ones h)) 0 (cond (third ones h && not (third zeros h)) 1 bit)

pub record TurnsBit (v : View) (r : Received) (t : Turn) : Type 0 where
  pub bit : t.bit ≡ bit_adopted v r
  pub strong : t.strong ≡ strong_after v r
  pub said : t.said ≡ opinion v r

abbrev pub Turns : State → Counts → Turn → Type 0
Turns s n t = (r : Received) → undecided (view s) ≡ true → CountsBits 4 r n → s.heard.len ≡ length r.heard → TurnsBit (view s) r t
