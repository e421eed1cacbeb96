-- The coordinator rotation: document 01, "From one tray to the next frame": the roster, and (b) and (c) of making round 3 + 3r but for the
-- decision's bit. What is read of a state is its rotor, and of what is received the lists, so no definition here but the roster, which asks for init,
-- can read a bit.
--     roster r               the senders of init, own included
--     tally l x              how many received lists have x
--     mentioned l            the numbers that some received list has
--     echoed c l             those that reach a third and were not candidates of the rotor c
--     joined c l             those that reach two thirds and were not candidates
--     candidates_after c l   the candidates, with those that join
--     decides u r c l        one that was undecided (u) decides now, in phase r
--     king_after u r c l     the king that it then names
--     gathered r c           the rotor c after making round 2; hearing h c, after one that changes those heard alone; rotated u r c l, after
--                            making round 3 + 3r
use Rattle.std.specs.Prelude.{ℕ, Bool, not, cond, ◌&&◌, List, [], ◌∷◌, ◌++◌, leb, length, get_or}
use Rattle.controller.specs.Lists.{mem, count_if, keep, insert_all}
use Rattle.controller.specs.Thirds.{third, two_thirds}
use Rattle.controller.specs.State.{Rotor}
use Rattle.controller.specs.Received.{Received, ReceivedLists, says}

-- "Making round 2: echoes become the senders of init, own included"
unfoldable pub roster : Received → List ℕ
roster r = keep (λ (x : ℕ). says 1 2 (r.from x)) r.heard

-- ---- (b): "Count for each number the received lists that have it"

unfoldable pub tally : ReceivedLists → ℕ → ℕ
tally l x = count_if (λ (y : ℕ). mem x (l.list y)) l.heard

-- the lists had from some senders, one behind the other
abbrev pub joined_lists : (ℕ → List ℕ) → List ℕ → List ℕ
joined_lists list [] = []
joined_lists list (x ∷ senders) = list x ++ joined_lists list senders

unfoldable pub mentioned : ReceivedLists → List ℕ
mentioned l = insert_all (joined_lists l.list l.heard) []

-- "Echoes become the numbers that reach a third and were not candidates"
unfoldable pub echoed : Rotor → ReceivedLists → List ℕ
echoed c l = keep (λ (x : ℕ). third (tally l x) (length l.heard) && not (mem x c.candidates)) (mentioned l)

-- "of the non-candidates, those that reach two thirds become candidates"
unfoldable pub joined : Rotor → ReceivedLists → List ℕ
joined c l = keep (λ (x : ℕ). two_thirds (tally l x) (length l.heard) && not (mem x c.candidates)) (mentioned l)

unfoldable pub candidates_after : Rotor → ReceivedLists → List ℕ
candidates_after c l = insert_all (joined c l) c.candidates

-- ---- (c)

-- "If undecided and r ≥ the number of candidates"
unfoldable pub decides : Bool → ℕ → Rotor → ReceivedLists → Bool
decides undecided r c l = undecided && leb (length (candidates_after c l)) r

-- "if still undecided, the king becomes the candidate at place r, places from 0; if decided, it becomes 0"
unfoldable pub king_after : Bool → ℕ → Rotor → ReceivedLists → ℕ
king_after undecided r c l = cond (undecided && not (decides undecided r c l)) (get_or (candidates_after c l) r 0) 0

-- ---- the rotor after a step

abbrev pub hearing : List ℕ → Rotor → Rotor
hearing heard c = record { heard = heard; candidates = c.candidates; echoes = c.echoes; king = c.king }

abbrev pub gathered : Received → Rotor → Rotor
gathered r c = record { heard = r.heard; candidates = c.candidates; echoes = roster r; king = c.king }

abbrev pub rotated : Bool → ℕ → Rotor → ReceivedLists → Rotor
rotated undecided r c l =
    record { heard = l.heard; candidates = candidates_after c l; echoes = echoed c l; king = king_after undecided r c l }
