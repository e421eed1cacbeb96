-- When each number was first heard: document 02, "A8. Show when each section was first heard".
--     first_of x l w       the round that the record w, which stands beside the list l, has for x; 0 where x is not in l
--     first_in s x         the round that the state s has for x
--     firsts_after v w es  the record after a tray with the entries es, from that of the state v, which is w
--     rounds_after s es    the places of the record after a tray with the entries es, from the state s
-- Nothing here is read by a rule of a step.
use Rattle.std.specs.Prelude.{ℕ, cond, List, [], ◌∷◌, map, eqb}
use Rattle.wire.specs.Numbers.{listed}
use Rattle.wire.specs.Tray.{Entry}
use Rattle.controller.specs.Lists.{mem}
use Rattle.controller.specs.State.{View, view, first_rounds, recorded}
use Rattle.controller.specs.Received.{receive}
use Rattle.controller.specs.declared.state.State.{State}

abbrev pub first_of : ℕ → List ℕ → List ℕ → ℕ
first_of x [] w = 0
first_of x (y ∷ l) [] = 0
first_of x (y ∷ l) (t ∷ w) = cond (eqb x y) t (first_of x l w)

abbrev pub first_in : State → ℕ → ℕ
first_in s x = first_of x (listed s.heard) (first_rounds s)

-- "the round of the tray that first brought it": who was heard keeps its round, and who is new has that of the tray, which is the state's (refusal 5)
unfoldable pub firsts_after : View → List ℕ → List Entry → List ℕ
firsts_after v w es = map (λ x. cond (mem x v.rotor.heard) (first_of x v.rotor.heard w) v.round) (receive v es).heard

abbrev pub rounds_after : State → List Entry → List ℕ
rounds_after s es = recorded (firsts_after (view s) (first_rounds s) es)
