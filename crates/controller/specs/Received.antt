-- What a controller has received in a round: document 01, "From one tray to the next frame", its first two paragraphs, and document 02, "A5. Two different
-- frames under one number" and "A7. Let decided controllers go quiet".
--     frame_of v           the frame sent with the state v, which has not decided: "the controller's own last frame"
--     stand_in v           what one that is silent counts as having sent: that frame without an opinion
--     silent v es x        x was heard before and has no entry among es
--     Received             who is heard, and the frame had from each
--     receive v es         what the state v has received with the entries es of a tray: the rules read no entry but by way of this
--     says k b o           a received frame of kind k with bit b; list_in o, its numbers; opinion_in o, its opinion, 2 where it has none
--     count P r            how many of those heard have a received frame with P
--     lists r              the received lists, all that the coordinator rotation reads: no bit is among them
use Rattle.std.specs.Prelude.{ℕ, Bool, true, false, cond, ◌&&◌, List, [], map, ltb, eqb}
use Rattle.std.specs.Prelude.{Option, Some, None}
use Rattle.wire.specs.Frame.{Content, content, kind_of, kind_said, bit_said, said_by, max_count}
use Rattle.wire.specs.Found.{Under, nothing, one, several, under}
use Rattle.wire.specs.Tray.{Entry}
use Rattle.controller.specs.Lists.{mem, count_if, insert_all}
use Rattle.controller.specs.State.{View}

-- the frame of v's round that says the bit b; a list is sent in a roster and a turn only
abbrev pub frame_saying : View → ℕ → Content
frame_saying v b =
    record {
      round = v.round;
      said = said_by (kind_of v.round) b;
      numbers = cond (ltb 0 (max_count (kind_of v.round))) v.rotor.echoes [];
    }

unfoldable pub frame_of : View → Content
frame_of v = frame_saying v v.bit.said

-- "what the receiver itself sent, opinions apart": the bit of a turn is an opinion
unfoldable pub stand_in : View → Content
stand_in v = frame_saying v (cond (eqb (kind_of v.round) 5) 2 v.bit.said)

abbrev pub senders : List Entry → List ℕ
senders es = map (λ (e : Entry). e.sender) es

-- what one frame reads as; none and several say nothing
abbrev pub read_in : ℕ → Under → Option Content
read_in t nothing = None
read_in t (one b) = content b t
read_in t several = None

abbrev pub is_nothing : Under → Bool
is_nothing nothing = true
is_nothing (one b) = false
is_nothing several = false

-- "a sender heard before this tray with no entry in it"; "A void frame is not silence, and neither is an entry of length 0", nor are several
abbrev pub silent : View → List Entry → ℕ → Bool
silent v es x = mem x v.rotor.heard && is_nothing (under x es)

pub record Received : Type 0 where
  pub heard : List ℕ
  pub from : ℕ → Option Content

-- "Each sender in the directory becomes heard, even by a void frame. The controller's own last frame counts as received"; document 02, A5: "if a
-- sender's frames in a tray (void ones too ..) differ, it is heard and says nothing; equal copies count once"; A7: one that is silent "counts as having
-- sent what the receiver itself sent, opinions apart"
unfoldable pub receive : View → List Entry → Received
receive v es =
    record {
      heard = insert_all (senders es) v.rotor.heard;
      from = λ x. cond (eqb x v.own) (Some (frame_of v)) (cond (silent v es x) (Some (stand_in v)) (read_in v.round (under x es)));
    }

-- ---- what a received frame says

abbrev pub says : ℕ → ℕ → Option Content → Bool
says k b None = false
says k b (Some c) = eqb (kind_said c.said) k && eqb (bit_said c.said) b

abbrev pub opinion_in : Option Content → ℕ
opinion_in None = 2
opinion_in (Some c) = cond (eqb (kind_said c.said) 5) (bit_said c.said) 2

abbrev pub list_in : Option Content → List ℕ
list_in None = []
list_in (Some c) = c.numbers

abbrev pub count : (Option Content → Bool) → Received → ℕ
count P r = count_if (λ (x : ℕ). P (r.from x)) r.heard

-- ---- the received lists

pub record ReceivedLists : Type 0 where
  pub heard : List ℕ
  pub list : ℕ → List ℕ

abbrev pub lists : Received → ReceivedLists
lists r = record { heard = r.heard; list = λ x. list_in (r.from x) }
