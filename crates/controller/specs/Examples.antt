-- The two worked examples of document 01, the session that "The session printer" lists and the last of the "Trials", both as document 02, "A7. Let decided
-- controllers go quiet", changes them.
--     after_start v        the state after a start that made v
--     worked s b           the state that a call makes of s with the tray b
--     row v                a line of the printer: what a call that made the state v prints
--     listing s bs         the lines from the state s on, over the trays bs
--     refusals s bs        what these trays are refused under, 0 for none
--     Session              what the paper says of the session
--     from_three t p       what the faulty 3 sends to p in round t, as entries of p's tray; from_others p vs, what the others of vs send, those who
--                          have decided nothing
--     packed t es          the well packed tray of round t with the entries es
--     tray_to s ss         the tray of the one whose state is s: what 3 sends to it, then the frames of the others of ss, byte for byte
--     exchange ss          the states after each has taken its tray
--     LateJoiner a b c     what the paper says of the trial, where 5, 7 and 9 bring in the bits a, b, c
use Rattle.std.specs.Prelude.{ℕ, zero, suc, ◌+◌, ◌*◌, not, cond, ◌&&◌, ◌||◌, List, [], ◌∷◌, ◌++◌, map, ◌≡◌, eqb, length, replicate}
use Rattle.wire.specs.Limits.{max_frame, tray_header, entry_width}
use Rattle.wire.specs.Words.{half_bytes, word_bytes}
use Rattle.wire.specs.Frame.{kind_said, bit_said}
use Rattle.wire.specs.Tray.{Entry, entries}
use Rattle.controller.specs.State.{View, view, undecided, first_rounds, stored_state, start_view, start_rounds}
use Rattle.controller.specs.First.{rounds_after}
use Rattle.controller.specs.Received.{frame_of}
use Rattle.controller.specs.Rules.{next}
use Rattle.controller.specs.Refusals.{start_refusal, tray_refusal}
use Rattle.controller.specs.Calls.{sent_bytes}
use Rattle.controller.specs.declared.state.State.{State}

abbrev pub after_start : View → State
after_start v = stored_state v start_rounds

abbrev pub worked : State → List ℕ → State
worked s b = stored_state (next (view s) (entries b)) (rounds_after s (entries b))

-- ---- "Number 7, bit 1 and five empty trays of rounds 1 to 5 give"

-- "the round, kind, bit and number count of the frame sent"; "With kind 0 for no frame"
abbrev pub frame_columns : View → List ℕ
frame_columns v =
    let sent = frame_of v in
    cond (undecided v)
    (v.round ∷ kind_said sent.said ∷ bit_said sent.said ∷ length sent.numbers ∷ [])
    (v.round ∷ 0 ∷ 2 ∷ 0 ∷ [])

-- "then the sizes of heard and candidates, king, decision"
abbrev pub row : View → List ℕ
row v = frame_columns v ++ (length v.rotor.heard ∷ length v.rotor.candidates ∷ v.rotor.king ∷ v.bit.decision ∷ [])

abbrev pub listing : State → List (List ℕ) → List (List ℕ)
listing s [] = row (view s) ∷ []
listing s (b ∷ bs) = row (view s) ∷ listing (worked s b) bs

abbrev pub refusals : State → List (List ℕ) → List ℕ
refusals s [] = []
refusals s (b ∷ bs) = tray_refusal s b max_frame ∷ refusals (worked s b) bs

abbrev pub empty_trays : List (List ℕ)
empty_trays =
    (0 ∷ 0 ∷ 0 ∷ 1 ∷ 0 ∷ 0 ∷ 0 ∷ 0 ∷ [])
    ∷ (0 ∷ 0 ∷ 0 ∷ 2 ∷ 0 ∷ 0 ∷ 0 ∷ 0 ∷ [])
    ∷ (0 ∷ 0 ∷ 0 ∷ 3 ∷ 0 ∷ 0 ∷ 0 ∷ 0 ∷ [])
    ∷ (0 ∷ 0 ∷ 0 ∷ 4 ∷ 0 ∷ 0 ∷ 0 ∷ 0 ∷ [])
    ∷ (0 ∷ 0 ∷ 0 ∷ 5 ∷ 0 ∷ 0 ∷ 0 ∷ 0 ∷ [])
    ∷ []

pub record Session : Type 0 where
  pub start_accepted : start_refusal 7 1 max_frame ≡ 0
  pub trays_accepted : refusals (after_start (start_view 7 1)) empty_trays ≡ replicate 5 0
  pub printed :
      listing (after_start (start_view 7 1)) empty_trays
      ≡ (1 ∷ 1 ∷ 2 ∷ 0 ∷ 1 ∷ 0 ∷ 0 ∷ 2 ∷ [])
      ∷ (2 ∷ 2 ∷ 2 ∷ 1 ∷ 1 ∷ 0 ∷ 0 ∷ 2 ∷ [])
      ∷ (3 ∷ 3 ∷ 1 ∷ 0 ∷ 1 ∷ 1 ∷ 7 ∷ 2 ∷ [])
      ∷ (4 ∷ 4 ∷ 1 ∷ 0 ∷ 1 ∷ 1 ∷ 7 ∷ 2 ∷ [])
      ∷ (5 ∷ 5 ∷ 1 ∷ 1 ∷ 1 ∷ 1 ∷ 7 ∷ 2 ∷ [])
      -- "the listing's last line becomes"
      ∷ (6 ∷ 0 ∷ 2 ∷ 0 ∷ 1 ∷ 1 ∷ 0 ∷ 1 ∷ [])
      ∷ []

-- ---- "Proper 5, 7, 9 and faulty 3"

-- "It sends init to 5 and 7 only, then a roster that lists just 3, sent to 9 alone"; document 02, A7: "3 now sends 5 and 7 a void frame in round 2", here one
-- of a single byte; for "causes no later change" it is silent from round 3 on
abbrev pub from_three : ℕ → ℕ → List Entry
from_three t p =
    cond (eqb t 1 && (eqb p 5 || eqb p 7)) (record { sender = 3; bytes = 0 ∷ 0 ∷ 0 ∷ 1 ∷ 1 ∷ 2 ∷ 0 ∷ 0 ∷ [] } ∷ [])
    (cond (eqb t 2 && (eqb p 5 || eqb p 7)) (record { sender = 3; bytes = 255 ∷ [] } ∷ [])
    (cond (eqb t 2 && eqb p 9) (record { sender = 3; bytes = 0 ∷ 0 ∷ 0 ∷ 2 ∷ 2 ∷ 2 ∷ 0 ∷ 1 ∷ 0 ∷ 0 ∷ 0 ∷ 3 ∷ [] } ∷ [])
    []))

abbrev pub from_others : ℕ → List View → List Entry
from_others p [] = []
from_others p (v ∷ vs) =
    cond (undecided v && not (eqb v.own p)) (record { sender = v.own; bytes = sent_bytes v } ∷ from_others p vs) (from_others p vs)

-- the directory of the entries, the first of whose frames begins at `at`, and their frames
abbrev pub directory : ℕ → List Entry → List ℕ
directory at [] = []
directory at (e ∷ es) = word_bytes e.sender ++ half_bytes at ++ half_bytes (length e.bytes) ++ directory (at + length e.bytes) es

abbrev pub frames : List Entry → List ℕ
frames [] = []
frames (e ∷ es) = e.bytes ++ frames es

abbrev pub packed : ℕ → List Entry → List ℕ
packed t es = word_bytes t ++ half_bytes (length es) ++ half_bytes 0 ++ directory (tray_header + entry_width * length es) es ++ frames es

abbrev pub tray_to : State → List State → List ℕ
tray_to s ss = packed s.round (from_three s.round s.own ++ from_others s.own (map view ss))

abbrev pub exchange : List State → List State
exchange ss = map (λ (s : State). worked s (tray_to s ss)) ss

-- the states of round 1 + n, from those of round 1
abbrev pub after_rounds : ℕ → List State → List State
after_rounds zero ss = ss
after_rounds (suc n) ss = after_rounds n (exchange ss)

-- f of the states of n rounds, one after the other
abbrev pub in_rounds : {A : Type 0} → ℕ → (List State → A) → List State → List A
in_rounds zero f ss = []
in_rounds (suc n) f ss = f ss ∷ in_rounds n f (exchange ss)

abbrev pub starts : ℕ → ℕ → ℕ → List View
starts a b c = start_view 5 a ∷ start_view 7 b ∷ start_view 9 c ∷ []

abbrev pub begun : ℕ → ℕ → ℕ → List State
begun a b c = map after_start (starts a b c)

abbrev pub tray_refusals : List State → List ℕ
tray_refusals ss = map (λ (s : State). tray_refusal s (tray_to s ss) max_frame) ss

abbrev pub decisions : List State → List ℕ
decisions ss = map (λ (s : State). s.decision) ss

abbrev pub kings : List State → List ℕ
kings ss = map (λ (s : State). s.king) ss

pub record LateJoiner (a b c : ℕ) : Type 0 where
  -- no tray of rounds 1 to 14 is refused
  pub accepted : in_rounds 14 tray_refusals (begun a b c) ≡ replicate 14 (0 ∷ 0 ∷ 0 ∷ [])
  -- "In phase 0, 9 names king 3; 5 and 7 name 5"
  pub phase_0 : kings (after_rounds 2 (begun a b c)) ≡ 5 ∷ 5 ∷ 3 ∷ []
  -- "In phase 1 all have 3, 5, 7, 9 and name 5"
  pub phase_1_candidates : map (λ (s : State). (view s).rotor.candidates) (after_rounds 5 (begun a b c)) ≡ replicate 3 (3 ∷ 5 ∷ 7 ∷ 9 ∷ [])
  pub phase_1 : kings (after_rounds 5 (begun a b c)) ≡ 5 ∷ 5 ∷ 5 ∷ []
  -- "all decide in round 15", none in the 14 rounds before: on the bit of 7 and 9, which have two thirds with 3, whose silence counts as their own value
  pub decided : in_rounds 15 decisions (begun a b c) ≡ replicate 14 (2 ∷ 2 ∷ 2 ∷ []) ++ ((b ∷ b ∷ b ∷ []) ∷ [])
  pub last_round_lem : map (λ (s : State). s.round) (after_rounds 14 (begun a b c)) ≡ 15 ∷ 15 ∷ 15 ∷ []
  -- document 02, A8: beside 3, 5, 7 and 9 each has the round in which it first heard them; 9 heard 3 in round 2 only
  pub first_heard :
      map first_rounds (after_rounds 14 (begun a b c)) ≡ (1 ∷ 0 ∷ 1 ∷ 1 ∷ []) ∷ (1 ∷ 1 ∷ 0 ∷ 1 ∷ []) ∷ (2 ∷ 1 ∷ 1 ∷ 0 ∷ []) ∷ []
