-- A controller's state: document 01, "A controller's state", and document 02, "A7. Let decided controllers go quiet" and "A8. Show when each section was
-- first heard".
--     View                 the ten things that document 01 lists, as numbers and lists, in parts: all that the rules of a step read
--     Rotor                what belongs to the coordinator rotation; BitPart, what belongs to the bit
--     state_from ..        the stored state with these fields, lists and places of the record
--     view s               the view of a stored state
--     first_rounds s       its record: beside each number heard, in heard's order, the round of the tray that first brought it
--     stored_state v p     the stored state of the view v, where p are the places of the record; recorded l, the places of the record l
--     start_view n b       the state after a start with number n and bit b; start_rounds, the places of its record
--     sound s              the papers' "sound": the rules that they list, and nothing more
--     sound_rules s        the rules of soundness of the ten things
--     sound_beside o l w   those of the record: the places w of the record are in range beside the numbers l, of which o is the own one
--     undecided v          the decision is 2, none
use Rattle.std.specs.Prelude.{ℕ, Bool, true, false, not, cond, ◌&&◌, List, [], ◌∷◌, leb, ltb, eqb, length, take}
use Rattle.wire.specs.Frame.{kind_of, bit_fits, round_fits}
use Rattle.wire.specs.Limits.{max_numbers, last_round}
use Rattle.wire.specs.Numbers.{rising, stored, listed}
use Rattle.wire.specs.declared.frame.Numbers.{Numbers}
use Rattle.controller.specs.Lists.{mem}
use Rattle.controller.specs.declared.state.State.{State}

pub record Rotor : Type 0 where
  pub heard : List ℕ
  pub candidates : List ℕ
  pub echoes : List ℕ
  -- a number, 0 for none
  pub king : ℕ

pub record BitPart : Type 0 where
  -- the own bit
  pub own : ℕ
  -- the bit said in the last frame, 2 from the decision on
  pub said : ℕ
  pub strong : ℕ
  -- 0, 1, or 2 for none
  pub decision : ℕ

pub record View : Type 0 where
  -- the own number
  pub own : ℕ
  -- the last round sent, or that of the decision, in which nothing is sent
  pub round : ℕ
  pub rotor : Rotor
  pub bit : BitPart

-- the bit's part of a stored state
abbrev pub bit_part : State → BitPart
bit_part s = record { own = s.bit; said = s.said; strong = s.strong; decision = s.decision }

abbrev pub view : State → View
view s =
    record {
      own = s.own;
      round = s.round;
      rotor = record { heard = listed s.heard; candidates = listed s.candidates; echoes = listed s.echoes; king = s.king };
      bit = bit_part s;
    }

-- "The state gains, beside each heard number, the round of the tray that first brought it"
abbrev pub first_rounds : State → List ℕ
first_rounds s = take (length (listed s.heard)) s.since

abbrev pub state_from : ℕ → ℕ → BitPart → ℕ → Numbers → Numbers → Numbers → List ℕ → State
state_from own round bit king heard candidates echoes rounds =
    record {
      own = own;
      round = round;
      bit = bit.own;
      said = bit.said;
      strong = bit.strong;
      king = king;
      decision = bit.decision;
      heard = heard;
      candidates = candidates;
      echoes = echoes;
      since = rounds;
    }

abbrev pub stored_state : View → List ℕ → State
stored_state v rounds =
    state_from v.own v.round v.bit v.rotor.king (stored v.rotor.heard) (stored v.rotor.candidates) (stored v.rotor.echoes) rounds

-- 64 places, of which the unused ones are 0
abbrev pub recorded : List ℕ → List ℕ
recorded l = (stored l).at

-- "heard is the own number, the other lists are empty, strong 0, king 0, decision 2"; the round is 1, and init says 2
abbrev pub start_view : ℕ → ℕ → View
start_view number bit =
    record {
      own = number;
      round = 1;
      rotor = record { heard = number ∷ []; candidates = []; echoes = []; king = 0 };
      bit = record { own = bit; said = 2; strong = 0; decision = 2 };
    }

-- only the own number is heard: "for the own number it is 0"
abbrev pub start_rounds : List ℕ
start_rounds = recorded (0 ∷ [])

-- the all-zero state
abbrev pub zero_state : State
zero_state = state_from 0 0 (record { own = 0; said = 0; strong = 0; decision = 0 }) 0 (stored []) (stored []) (stored []) (recorded [])

abbrev pub undecided : View → Bool
undecided v = eqb v.bit.decision 2

-- ---- soundness

abbrev pub same : List ℕ → List ℕ → Bool
same [] [] = true
same [] (y ∷ m) = false
same (x ∷ l) [] = false
same (x ∷ l) (y ∷ m) = eqb x y && same l m

-- "lists are strictly rising and nonzero with unused places 0": the stored form of such a list of at most 64 numbers
abbrev pub sound_list : Numbers → Bool
sound_list n = leb n.len max_numbers && rising 0 (listed n) && same n.at (stored (listed n)).at

abbrev pub is_empty : List ℕ → Bool
is_empty l = eqb (length l) 0

-- "said is allowed for the round's kind and equals the own bit in a value round"; document 02, A7: "said is 2 (a sound decided state has just that)"
abbrev pub sound_said : View → Bool
sound_said v =
    cond (undecided v)
    (bit_fits (kind_of v.round) v.bit.said && cond (eqb (kind_of v.round) 3) (eqb v.bit.said v.bit.own) true)
    (eqb v.bit.said 2)

-- "candidates are empty in rounds 1 and 2; echoes are empty in round 1"
abbrev pub sound_empty : View → Bool
sound_empty v =
    cond (leb v.round 2) (is_empty v.rotor.candidates) true && cond (leb v.round 1) (is_empty v.rotor.echoes) true

-- all but the record
unfoldable pub sound_rules : State → Bool
sound_rules s =
    round_fits s.round && (not (eqb s.own 0) && mem s.own (listed s.heard))
    && (sound_list s.heard && sound_list s.candidates && sound_list s.echoes)
    && sound_said (view s) && sound_empty (view s)
    && (leb s.bit 1 && leb s.strong 1 && leb s.decision 2)

-- "It is 1 to 194; for the own number it is 0", of the round t beside the number x
abbrev pub first_fits : ℕ → ℕ → ℕ → Bool
first_fits own x t = cond (eqb x own) (eqb t 0) (leb 1 t && ltb t last_round)

-- P holds of each number of a list with what stands beside it in the other, and the two are as long
abbrev pub alongside : (ℕ → ℕ → Bool) → List ℕ → List ℕ → Bool
alongside P [] [] = true
alongside P [] (t ∷ w) = false
alongside P (x ∷ l) [] = false
alongside P (x ∷ l) (t ∷ w) = P x t && alongside P l w

-- "A sound state has these in range and 0 in unused places", of the places w beside the numbers l
unfoldable pub sound_beside : ℕ → List ℕ → List ℕ → Bool
sound_beside own l w = let used = take (length l) w in alongside (first_fits own) l used && same w (recorded used)

unfoldable pub sound : State → Bool
sound s = sound_rules s && sound_beside s.own (listed s.heard) s.since
