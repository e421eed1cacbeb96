-- Words for step.rt: the state that a step makes. They are no part of the rules: the laws tie them to the rules' words.
--     Due k s b f              the state s is ready for the tray b, and a frame of kind k is to be made
--     named_state n r          the state n with what (c) gives in phase r: the king, or the decision, with which nothing is said any more
--     Makes s b r t            r says whether the lists of the state that the step makes of s fit; if so, t is that state, else t is s
--     MakesAll s b t           they do, and t is that state
use Rattle.std.specs.Prelude.{ℕ, ◌+◌, ◌<◌, true, false, cond, Bool, List, ◌≡◌, leb, get_or}
use Rattle.wire.specs.Limits.{last_round}
use Rattle.wire.specs.Numbers.{listed}
use Rattle.wire.specs.Tray.{entries}
use Rattle.wire.specs.Frame.{kind_of}
use Rattle.controller.specs.State.{view, stored_state, state_from}
use Rattle.controller.specs.Rules.{next}
use Rattle.controller.specs.Refusals.{lists_fit}
use Rattle.controller.specs.Work.Received.{Ready}
use Rattle.controller.specs.declared.state.State.{State}

abbrev pub Due : ℕ → State → List ℕ → List ℕ → Type 0
Due k s b f = Ready s b f × (kind_of (s.round + 1) ≡ k) × (s.round < last_round)

unfoldable pub named_state : State → ℕ → State
named_state n r =
    let stops = leb n.candidates.len r in
    state_from n.own n.round (record { own = n.bit; said = cond stops 2 n.said; strong = n.strong; decision = cond stops n.bit n.decision })
    (get_or (listed n.candidates) r 0) n.heard n.candidates n.echoes n.since

pub record Makes (s : State) (b : List ℕ) (r : Bool) (t : State) : Type 0 where
  pub fits : r ≡ lists_fit (view s) (entries b)
  pub made : r ≡ true → t ≡ stored_state (next (view s) (entries b)) s.since
  pub kept : r ≡ false → t ≡ s

abbrev pub MakesAll : State → List ℕ → State → Type 0
MakesAll s b t = Makes s b true t
