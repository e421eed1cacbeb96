-- A run as steps of the published rules: what the calls of a run come to, without bytes, trays, refusals or buffers.
--     Steps                  each correct one's states, round by round, and what it received
--     Active S p t           p has not decided by round t: it sends a frame for it and works a tray of it
--     AllActive S t          no correct one has decided by round t
--     AtWork S p t           the correct p is active in round t, whose tray keeps the guarantee
--     Reception S p t r      r is what p receives with a tray of round t that keeps the line's guarantee: from the correct ones just the frames that they sent,
--                            and p's own, without its opinion, for each that has gone quiet
--     StepRules S            how they follow from each other, by the rules and the line's guarantee
use Rattle.std.specs.Prelude.{ℕ, suc, ◌+◌, ◌*◌, ◌≤◌, ◌<◌, true, false, List, ◌++◌, ◌⊎◌, ◌≢◌, ◌≡◌, length}
use Rattle.std.specs.Prelude.{Some}
use Rattle.controller.specs.Lists.{In, Inside, NoRepeats, Rising}
use Rattle.controller.specs.State.{View, start_view, undecided}
use Rattle.controller.specs.Received.{Received, frame_of, stand_in}
use Rattle.controller.specs.Rules.{step}
use Rattle.controller.specs.Laws.State.{Sound}

pub record Steps : Type 0 where
  pub correct : List ℕ
  pub faulty : List ℕ
  -- the bit that p brought in
  pub input : ℕ → ℕ
  -- state p t: p's state of round t, or the one with which it decided before
  pub state : ℕ → ℕ → View
  -- received p t: what p had received with the tray of round t that it worked
  pub received : ℕ → ℕ → Received

module _ (S : Steps) where
  open S use {correct, faulty, input, state, received}

  abbrev pub all : List ℕ
  all = correct ++ faulty

  abbrev pub Active : ℕ → ℕ → Type 0
  Active p t = undecided (state p t) ≡ true

  abbrev pub AllActive : ℕ → Type 0
  AllActive t = (p : ℕ) → In p correct → Active p t

  pub record Reception (p t : ℕ) (r : Received) : Type 0 where
    pub rises : Rising r.heard
    pub others : (x : ℕ) → In x r.heard → In x (state p t).rotor.heard ⊎ In x all
    pub present : Inside correct r.heard
    pub frames : (q : ℕ) → In q correct → Active q t → r.from q ≡ Some (frame_of (state q t))
    pub quiet : (q : ℕ) → In q correct → undecided (state q t) ≡ false → r.from q ≡ Some (stand_in (state p t))

  -- a round whose tray keeps the guarantee
  pub record Timely (t : ℕ) : Type 0 where
    pub first : 1 ≤ t
    pub last : t ≤ 2 + 3 * length all

  pub record AtWork (p t : ℕ) : Type 0 where
    pub member : In p correct
    pub timely : Timely t
    pub active : Active p t

  pub record StepRules : Type 0 where
    pub differ : NoRepeats all
    pub nonzero : (x : ℕ) → In x all → x ≢ 0
    pub few : 3 * length faulty < length all
    pub begins : (p : ℕ) → In p correct → state p 1 ≡ start_view p (input p)
    pub a_bit : (p : ℕ) → In p correct → input p ≤ 1
    pub own : (p t : ℕ) → AtWork p t → (state p t).own ≡ p
    pub round : (p t : ℕ) → AtWork p t → (state p t).round ≡ t
    pub sound : (p t : ℕ) → AtWork p t → Sound (state p t)
    pub receives : (p t : ℕ) → AtWork p t → Reception p t (received p t)
    pub follows : (p t : ℕ) → AtWork p t → state p (suc t) ≡ step (state p t) (received p t)
    -- who has decided stays as it is
    pub rests : (p t : ℕ) → In p correct → Timely t → undecided (state p t) ≡ false → state p (suc t) ≡ state p t
