-- What is claimed of every run: document 01, "The run of demand 3", its last paragraph; by document 02, "A7. Let decided controllers go quiet", it "must
-- still hold when proper controllers stop at different rounds". One claim about all the lists of a run together.
--     Decides n b c      c's list returns a state with decision b by round 3 + 3n, and each later state has it too
--     Outcome l f        the claim, of the proper ones l and the faulty ones f of a run
use Rattle.std.specs.Prelude.{ℕ, ◌+◌, ◌*◌, ◌≤◌, List, ◌∷◌, ◌++◌, ◌⊎◌, ◌≢◌, ◌≡◌, length}
use Rattle.controller.specs.declared.state.State.{State}
use Rattle.run.specs.Run.{Member, TrayCall, Controller, states, Sent, everyone, Delivers}

-- "each proper controller's list returns a state whose decision is not 2 and whose round is at most 3 + 3n; each later state in the list has
-- the same decision"
pub record Decides (n bit : ℕ) (c : Controller) : Type 0 where
  pub earlier : List State
  pub deciding : State
  pub later : List State
  pub order : states c ≡ earlier ++ deciding ∷ later
  -- it is the first that decides, so no state of the list has another decision
  pub undecided : (s : State) → Member s earlier → s.decision ≡ 2
  pub timely : deciding.round ≤ 3 + 3 * n
  pub decision : deciding.decision ≡ bit
  pub kept : (s : State) → Member s later → s.decision ≡ bit

pub record Outcome (correct : List Controller) (faulty : List ℕ) : Type 0 where
  -- "the decisions of all proper ones are equal", and none is 2
  pub bit : ℕ
  pub decided : bit ≢ 2
  pub agreement : (c : Controller) → Member c correct → Decides (length (everyone correct faulty)) bit c
  -- "and the bit is one that a proper one brought in"
  pub validity : (c : Controller) × Member c correct × (c.start.bit ≡ bit)
  -- "A tray of round t, up to 2 + 3n, that keeps the guarantee is refused only under 3 by a proper controller whose state is of round t and
  -- which sent a frame for t"
  pub refusals : (c : Controller) → Member c correct → (k : TrayCall) → Member k.state (states c)
      → k.state.round ≤ 2 + 3 * length (everyone correct faulty)
      → (b : List ℕ) → Sent c k.state.round b
      → Delivers correct faulty c.number k.state.round k.tray
      → (k.answer.refusal ≡ 0) ⊎ (k.answer.refusal ≡ 3)
