-- One step, from a tray to the next frame: document 01, "From one tray to the next frame", a definition for each of its four bullets.
--     make_roster v r      making round 2
--     make_value v r       making round 3 + 3r
--     make_propose v r     making round 4 + 3r
--     make_turn v r        making round 5 + 3r
--     step v r             the step of the state v that has received r, by the kind of the frame that is made
--     next v es            the step with the entries es of a tray
-- Each step makes the next round, and whoever is heard with the tray is heard from then on. A decided state takes no step: its trays are refused under 2.
use Rattle.std.specs.Prelude.{◌+◌, cond, List, eqb}
use Rattle.wire.specs.Frame.{kind_of}
use Rattle.wire.specs.Tray.{Entry}
use Rattle.controller.specs.State.{View, Rotor, BitPart, undecided}
use Rattle.controller.specs.Received.{Received, receive, lists}
use Rattle.controller.specs.Rotation.{hearing, gathered, rotated}
use Rattle.controller.specs.Bit.{phase, bit_taken, decision_after, value_said, proposal, bit_adopted, strong_after, opinion}

-- the state of the next round with these parts
abbrev pub next_round : View → Rotor → BitPart → View
next_round v rotor bit = record { own = v.own; round = v.round + 1; rotor = rotor; bit = bit }

abbrev pub make_roster : View → Received → View
make_roster v r = next_round v (gathered r v.rotor) v.bit

-- (a), then (b), then (c)
abbrev pub make_value : View → Received → View
make_value v r =
    next_round v (rotated (undecided v) (phase v) v.rotor (lists r))
    (record { own = bit_taken v r; said = value_said v r; strong = v.bit.strong; decision = decision_after v r })

abbrev pub make_propose : View → Received → View
make_propose v r =
    next_round v (hearing r.heard v.rotor)
    (record { own = v.bit.own; said = proposal r; strong = v.bit.strong; decision = v.bit.decision })

abbrev pub make_turn : View → Received → View
make_turn v r =
    next_round v (hearing r.heard v.rotor)
    (record { own = bit_adopted v r; said = opinion v r; strong = strong_after v r; decision = v.bit.decision })

unfoldable pub step : View → Received → View
step v r =
    let kind = kind_of (v.round + 1) in
    cond (eqb kind 2) (make_roster v r)
    (cond (eqb kind 3) (make_value v r)
    (cond (eqb kind 4) (make_propose v r)
    (make_turn v r)))

abbrev pub next : View → List Entry → View
next v es = step v (receive v es)
