-- The image of a state, 1,024 bytes that a host keeps: the page docs/IMAGE.md, and document 01, "A controller's state", with document 02's A8.
--     image_bytes, own_at, ..   the image's length and the offsets of its fields
--     Sized n                   the list n has a count that fits, and its 64 places; SizedRotation s, so have the candidates and the echoes of s
--     list_bytes n              a list's 260 bytes: its count, then its 64 places
--     zeros_from at             as many zeros as an image has bytes from at on
--     laid_out s                the bytes of the state s
--     with_rotation s b         the bytes b with candidates and echoes of the state s in their places
--     places_at b at            the 64 places that stand in b from at on
--     list_at b at              the list that stands in b from at on
--     rounds_at b               the record that stands in b
--     taken_apart b             the state in the bytes b
--     zeros l                   each number of l is 0
--     shaped b                  the bytes are as many as an image has, and the reserved ones are 0
--     sound_image b             so they are, and the state in them is sound
--     renewed_heard k s b       the bytes b with heard and the record of s in their places, where those heard are not k
--     renewed_rotation s b      the bytes b with candidates and echoes of s in their places, where s's round is that of a roster or a value
--     LaysOver k s b            what is known before a step's changes are stored over b: s is the state made, and k were heard before
use Rattle.std.specs.Prelude.{ℕ, ◌+◌, ◌-◌, ◌≤◌, ◌<◌, Bool, true, cond, ◌&&◌, List, [], ◌∷◌, ◌++◌, ◌≡◌, eqb, leb, length, get_or, drop, replicate}
use Rattle.std.proofs.lemmas.List.Edits.{sets}
use Rattle.std.proofs.Math.Seq.{slice}
use Rattle.wire.specs.Frame.{kind_of}
use Rattle.wire.specs.Limits.{max_numbers}
use Rattle.wire.specs.declared.frame.Numbers.{Numbers}
use Rattle.controller.specs.State.{sound}
use Rattle.controller.specs.declared.state.State.{State}
use Rattle.controller_c.specs.Words.{number_at, number_bytes, numbers_at, numbers_bytes}

-- ---- the table. The code names the same numbers in src/layout.rt

abbrev pub image_bytes : ℕ
image_bytes = 1024

abbrev pub own_at : ℕ
own_at = 0

abbrev pub round_at : ℕ
round_at = 4

abbrev pub own_bit_at : ℕ
own_bit_at = 8

abbrev pub said_at : ℕ
said_at = 9

abbrev pub strong_at : ℕ
strong_at = 10

abbrev pub king_at : ℕ
king_at = 11

abbrev pub decision_at : ℕ
decision_at = 15

abbrev pub heard_at : ℕ
heard_at = 16

abbrev pub candidates_at : ℕ
candidates_at = 276

abbrev pub echoes_at : ℕ
echoes_at = 536

-- document 02, A8: beside each place of heard, the round in which that number was first heard, one byte each
abbrev pub since_at : ℕ
since_at = 796

-- from here to the end the bytes are 0
abbrev pub reserved_at : ℕ
reserved_at = 860

-- a list: the width of its count, which its places follow, and of the whole
abbrev pub count_bytes : ℕ
count_bytes = 4

abbrev pub list_width : ℕ
list_width = 260

-- ---- from a state to its image

-- what every list of a sound state has
pub record Sized (n : Numbers) : Type 0 where
  pub few : n.len ≤ max_numbers
  pub places : length n.at ≡ max_numbers

pub record SizedRotation (s : State) : Type 0 where
  pub candidates : Sized s.candidates
  pub echoes : Sized s.echoes

-- the fields before the lists
abbrev pub head_bytes : State → List ℕ
head_bytes s =
    number_bytes s.own
    ++ (number_bytes s.round
    ++ (s.bit ∷ s.said ∷ s.strong ∷ (number_bytes s.king
    ++ (s.decision ∷ []))))

abbrev pub list_bytes : Numbers → List ℕ
list_bytes n = number_bytes n.len ++ numbers_bytes n.at

-- zeros from an offset on to the image's end
unfoldable pub zeros_from : ℕ → List ℕ
zeros_from at = replicate (image_bytes - at) 0

unfoldable pub laid_out : State → List ℕ
laid_out s = head_bytes s ++ (list_bytes s.heard ++ (list_bytes s.candidates ++ (list_bytes s.echoes ++ (s.since ++ zeros_from reserved_at))))

abbrev pub with_rotation : State → List ℕ → List ℕ
with_rotation s b = sets (sets b candidates_at (list_bytes s.candidates)) echoes_at (list_bytes s.echoes)

-- ---- from an image to the state in it

-- the 64 places of a list
unfoldable pub places_at : List ℕ → ℕ → List ℕ
places_at b at = numbers_at b at max_numbers

abbrev pub list_at : List ℕ → ℕ → Numbers
list_at b at = record { len = number_at b at; at = places_at b (at + count_bytes) }

-- the 64 places of the record
unfoldable pub rounds_at : List ℕ → List ℕ
rounds_at b = slice since_at reserved_at b

abbrev pub taken_apart : List ℕ → State
taken_apart b =
    record {
      own = number_at b own_at;
      round = number_at b round_at;
      bit = get_or b own_bit_at 0;
      said = get_or b said_at 0;
      strong = get_or b strong_at 0;
      king = number_at b king_at;
      decision = get_or b decision_at 0;
      heard = list_at b heard_at;
      candidates = list_at b candidates_at;
      echoes = list_at b echoes_at;
      since = rounds_at b;
    }

-- ---- soundness

abbrev pub zeros : List ℕ → Bool
zeros [] = true
zeros (x ∷ l) = eqb x 0 && zeros l

-- what is tested before the state
unfoldable pub shaped : List ℕ → Bool
shaped b = eqb (length b) image_bytes && zeros (drop reserved_at b)

unfoldable pub sound_image : List ℕ → Bool
sound_image b = shaped b && sound (taken_apart b)

-- ---- from a state to the image of the one before it

-- where nobody is new, heard and the record are as they were
abbrev pub renewed_heard : ℕ → State → List ℕ → List ℕ
renewed_heard k s b = cond (eqb s.heard.len k) b (sets (sets b heard_at (list_bytes s.heard)) since_at s.since)

-- the steps that make the other kinds leave candidates and echoes as they were
abbrev pub renewed_rotation : State → List ℕ → List ℕ
renewed_rotation s b = cond (leb (kind_of s.round) 3) (with_rotation s b) b

pub record LaysOver (k : ℕ) (s : State) (b : List ℕ) : Type 0 where
  pub image : sound_image b ≡ true
  pub made : sound s ≡ true
  pub heard : s.heard.len ≡ k → ((taken_apart b).heard ≡ s.heard) × ((taken_apart b).since ≡ s.since)
  pub rotation : 3 < kind_of s.round → ((taken_apart b).candidates ≡ s.candidates) × ((taken_apart b).echoes ≡ s.echoes)
