-- What is claimed of every run beside its outcome: document 02, "A12. How often the line was truly of one mind".
--     candidates s             the candidates in the state s
--     NobodyDecided l t        up to round t no state of the proper ones l has a decision
--     InRound c t P            c has a state of round t, just one, and it has the property P
--     SameKing l r k           before any of l decided, all of l named the king k in phase r: in making round 3 + 3r
--     RelayedAfter n l         a candidate of one of l, before any of them decided, is a candidate of all of l in their states n phases later
--     OneMind l                the claim, of the proper ones l of a run
use Rattle.std.specs.Prelude.{ℕ, suc, ◌+◌, ◌*◌, ◌≤◌, ◌<◌, List, ◌≡◌, length}
use Rattle.controller.specs.Lists.{In, NoRepeats}
use Rattle.controller.specs.State.{view}
use Rattle.controller.specs.declared.state.State.{State}
use Rattle.run.specs.Run.{Member, Controller, states}

abbrev pub candidates : State → List ℕ
candidates s = (view s).rotor.candidates

-- "before the first proper one decides"
abbrev pub NobodyDecided : List Controller → ℕ → Type 0
NobodyDecided correct t = (c : Controller) → Member c correct → (s : State) → Member s (states c) → s.round ≤ t → s.decision ≡ 2

pub record InRound (c : Controller) (t : ℕ) (P : State → Type 0) : Type 0 where
  pub state : State
  pub listed : Member state (states c)
  pub round : state.round ≡ t
  pub has : P state
  -- refused trays return it again, and no other state of the list is of this round
  pub only : (s : State) → Member s (states c) → s.round ≡ t → s ≡ state

-- "all proper controllers named the same .. king"
pub record SameKing (correct : List Controller) (phase king : ℕ) : Type 0 where
  pub before : NobodyDecided correct (3 + 3 * phase)
  pub named : (c : Controller) → Member c correct → InRound c (3 + 3 * phase) (λ s. s.king ≡ king)

-- of any state of the phase or before it, so long as nobody has decided in the phase
abbrev pub RelayedAfter : ℕ → List Controller → Type 0
RelayedAfter later correct = (phase : ℕ) → NobodyDecided correct (3 + 3 * phase)
    → (c : Controller) → Member c correct → (s : State) → Member s (states c) → s.round < 3 + 3 * suc phase
    → (x : ℕ) → In x (candidates s)
    → (d : Controller) → Member d correct → InRound d (3 + 3 * (phase + later)) (λ u. In x (candidates u))

pub record OneMind (correct : List Controller) : Type 0 where
  -- "with g proper controllers, before the first proper one decides there were at least g phases in which all proper controllers named the same proper king"
  pub phases : List ℕ
  pub differ : NoRepeats phases
  pub count : length phases ≡ length correct
  pub kings : (phase : ℕ) → In phase phases → (c : Controller) × Member c correct × SameKing correct phase c.number
  -- more than that: each proper one is the king of one of them
  pub each : (c : Controller) → Member c correct → (phase : ℕ) × In phase phases × SameKing correct phase c.number
  -- "a number that becomes a proper controller's candidate before that is every proper one's candidate by the next phase", which may be that of its decision
  pub relayed : RelayedAfter 1 correct
