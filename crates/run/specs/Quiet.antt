-- What is claimed of every list of calls from a start, worked trays and refused ones of any bytes: document 02, "A7. Let decided controllers go quiet".
--     Nothing k       nothing is sent with the call k
--     Stays s k       the call k is refused under 2 and returns the state s
--     Quiet c         the claim, of each call of the controller c
use Rattle.std.specs.Prelude.{◌<◌, List, ◌++◌, ◌≢◌, ◌≡◌}
use Rattle.controller.specs.declared.state.State.{State}
use Rattle.run.specs.Run.{Member, TrayCall, Controller, state_after}

abbrev pub Decided : State → Type 0
Decided s = s.decision ≢ 2

-- nothing is sent with the call, and its output stays
pub record Nothing (k : TrayCall) : Type 0 where
  pub sent : k.answer.length ≡ 0
  pub output : k.after ≡ k.before

-- the call is refused under 2, and the state stays
pub record Stays (s : State) (k : TrayCall) : Type 0 where
  pub refusal : k.answer.refusal ≡ 2
  pub state : k.answer.state ≡ s

pub record Quiet (c : Controller) : Type 0 where
  -- "A controller sends nothing from the round of its decision on: the output length is 0, said is 2"
  pub silent : (k : TrayCall) → Member k c.trays → Decided k.answer.state → Nothing k × (k.answer.state.said ≡ 2)
  -- "and a further tray gets refusal 2", whatever its bytes and the room for output: so a decision never changes
  pub final : (earlier later : List TrayCall) → c.trays ≡ earlier ++ later → Decided (state_after c.start.answer.state earlier)
      → (k : TrayCall) → Member k later → Stays (state_after c.start.answer.state earlier) k
  -- and before its decision it sends: each tray that is worked without one gives a frame
  pub sends : (k : TrayCall) → Member k c.trays → k.answer.refusal ≡ 0 → k.answer.state.decision ≡ 2 → 0 < k.answer.length
