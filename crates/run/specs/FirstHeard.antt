-- What is claimed of every list of calls from a start, worked trays and refused ones of any bytes: document 02, "A8. Show when each section was first heard".
--     heard s              those heard in the state s
--     Brought x ks         a tray of ks was worked that has an entry under x
--     first_brought x ks   the round of the first such tray; 0 where there is none
--     FirstHeard c         the claim, of each state that the controller c's calls return
use Rattle.std.specs.Prelude.{ℕ, cond, ◌&&◌, List, [], ◌∷◌, ◌++◌, ◌⊎◌, ◌↔◌, ◌≡◌, eqb}
use Rattle.controller.specs.Bytes.{round_of, entries}
use Rattle.controller.specs.First.{first_in}
use Rattle.controller.specs.Lists.{In, mem}
use Rattle.controller.specs.Received.{senders}
use Rattle.controller.specs.State.{view}
use Rattle.controller.specs.declared.state.State.{State}
use Rattle.run.specs.Run.{Member, TrayCall, Accepted, Controller, state_after}

abbrev pub heard : State → List ℕ
heard s = (view s).rotor.heard

abbrev pub Brought : ℕ → List TrayCall → Type 0
Brought x ks = (k : TrayCall) × Member k ks × Accepted k × In x (senders (entries k.tray))

abbrev pub first_brought : ℕ → List TrayCall → ℕ
first_brought x [] = 0
first_brought x (k ∷ ks) = cond (eqb k.answer.refusal 0 && mem x (senders (entries k.tray))) (round_of k.tray) (first_brought x ks)

-- of each front part of the list
pub record FirstHeard (c : Controller) : Type 0 where
  -- who is heard: the controller itself, and whoever a worked tray brought
  pub hears : (earlier later : List TrayCall) → c.trays ≡ earlier ++ later
      → (x : ℕ) → In x (heard (state_after c.start.answer.state earlier)) ↔ ((x ≡ c.number) ⊎ Brought x earlier)
  -- "beside each heard number, the round of the tray that first brought it"; "for the own number it is 0", which no worked tray brings
  pub rounds : (earlier later : List TrayCall) → c.trays ≡ earlier ++ later
      → (x : ℕ) → first_in (state_after c.start.answer.state earlier) x ≡ first_brought x earlier
  -- it never changes for a number once heard
  pub kept : (earlier more later : List TrayCall) → c.trays ≡ earlier ++ more ++ later
      → (x : ℕ) → In x (heard (state_after c.start.answer.state earlier))
      → first_in (state_after c.start.answer.state (earlier ++ more)) x ≡ first_in (state_after c.start.answer.state earlier) x
