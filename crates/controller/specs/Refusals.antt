-- Refusals of start and tray: document 01, "Refusals": each number in just its stated case, "a tray is tested 1 to 8; start 9 then 3"; and document 02,
-- "A7. Let decided controllers go quiet".
--     start_refusal number bit n    0, or the refusal of a start with an output buffer of n bytes
--     tray_refusal s b n            0, or the refusal of the tray b by the state s
use Rattle.std.specs.Prelude.{ℕ, Bool, not, ◌&&◌, List, [], ◌∷◌, leb, ltb, eqb, length}
use Rattle.wire.specs.Limits.{max_numbers, max_frame, last_round}
use Rattle.wire.specs.Refusal.{first_failed}
use Rattle.wire.specs.Tray.{Entry, well_formed, round_of, entries}
use Rattle.controller.specs.Lists.{mem}
use Rattle.controller.specs.State.{View, view, undecided, sound}
use Rattle.controller.specs.Received.{senders, receive}
use Rattle.controller.specs.Rules.{next}
use Rattle.controller.specs.declared.state.State.{State}

unfoldable pub start_refusal : ℕ → ℕ → ℕ → ℕ
start_refusal number bit n = first_failed ((not (eqb number 0) && leb bit 1, 9) ∷ (leb max_frame n, 3) ∷ [])

-- 2: the state's round is 195, or it has decided: "a further tray gets refusal 2"
abbrev pub works_on : View → Bool
works_on v = ltb v.round last_round && undecided v

-- 6: "a sender is 0 or the own number"
abbrev pub senders_fit : View → List Entry → Bool
senders_fit v es = not (mem 0 (senders es)) && not (mem v.own (senders es))

-- 7: "more than 64 would be heard"
abbrev pub heard_fit : View → List Entry → Bool
heard_fit v es = leb (length (receive v es).heard) max_numbers

-- 8: "more than 64 candidates or echoes would result"
abbrev pub lists_fit : View → List Entry → Bool
lists_fit v es = leb (length (next v es).rotor.candidates) max_numbers && leb (length (next v es).rotor.echoes) max_numbers

unfoldable pub tray_refusal : State → List ℕ → ℕ → ℕ
tray_refusal s b n =
    first_failed
    ((sound s, 1)
    ∷ (works_on (view s), 2)
    ∷ (leb max_frame n, 3)
    ∷ (well_formed b, 4)
    ∷ (eqb (round_of b) s.round, 5)
    ∷ (senders_fit (view s) (entries b), 6)
    ∷ (heard_fit (view s) (entries b), 7)
    ∷ (lists_fit (view s) (entries b), 8)
    ∷ [])
