-- Frames: document 01, "Frames", and the reader's and writer's rows of "Refusals"; the reader's as request A2 of document 02 has them.
--     kind_of t                 the kind of a frame of round t
--     kind_said, bit_said       the paper's kind and bit of each case of `Said`; bit_chosen, the bit of a proposal or an opinion
--     said_by k b               what a frame of kind k with bit b says
--     bit_fits, max_count       the layout table's rows for the bit and the count, by kind
--     Content                   what a frame holds: its round, what it says, its numbers
--     read_refusal s t          0, or why the bytes s are void for round t: 11, 12 or 13
--     content s t               the content of the bytes s, read in round t, if they have one
--     count_of s                how many numbers the bytes s list; 0 where they have no header
--     void_number e             the papers' number of each cause by which bytes are void
--     number_checked r, number_read r, frame_read r    that of each answer of the reader, 0 for none; and its frame, if it has one
--     unwritten_number e        the papers' number of each cause by which a frame is not written
--     number_written r, length_written r    that of each answer of the writer, 0 for none; and how many bytes it wrote
--     frame_in o                the frame of a content, without its list; bit_in o, the bit that a content says; 3 for none
--     write_refusal c n         0, or the refusal for content c and an output buffer of n bytes: 10, then 3
--     frame_bytes c             the bytes of content c
-- Bytes of a list are numbers below 256.
use Rattle.std.specs.Prelude.{ℕ, ◌+◌, ◌*◌, ◌%◌, Bool, true, cond, ◌&&◌, List, [], ◌∷◌, ◌++◌, ◌≡◌, leb, eqb, length, get_or, drop}
use Rattle.std.specs.Prelude.{Option, Some, None, Result, Ok, Err}
use Rattle.wire.specs.Limits.{frame_header, number_width, kind_at, bit_at, count_at, max_numbers, max_frame, last_round}
use Rattle.wire.specs.Words.{half_at, word_at, half_bytes, word_bytes, words_at, words_bytes}
use Rattle.wire.specs.Numbers.{rising}
use Rattle.wire.specs.Refusal.{first_failed}
use Rattle.wire.specs.declared.frame.Said.{Said}
use Rattle.wire.specs.declared.frame.Said.TheVariants.{Init, Roster, Value, Proposal, Opinion}
use Rattle.wire.specs.declared.frame.Frame.{Frame}
use Rattle.wire.specs.declared.frame.Void.{Void}
use Rattle.wire.specs.declared.frame.Void.TheVariants.{WrongLength, WrongRound, WrongContent}
use Rattle.wire.specs.declared.frame.Unwritten.{Unwritten}
use Rattle.wire.specs.declared.frame.Unwritten.TheVariants.{NoRoom, NoFrame}

-- ---- kinds and bits

-- 1 in round 1, 2 in round 2, then 3, 4, 5 in rounds 3 + 3r, 4 + 3r, 5 + 3r
unfoldable pub kind_of : ℕ → ℕ
kind_of t = cond (eqb t 1) 1 (cond (eqb t 2) 2 (3 + t % 3))

abbrev pub bit_chosen : Option ℕ → ℕ
bit_chosen (Some b) = b
bit_chosen None = 2

abbrev pub kind_said : Said → ℕ
kind_said Init = 1
kind_said Roster = 2
kind_said (Value b) = 3
kind_said (Proposal c) = 4
kind_said (Opinion c) = 5

abbrev pub bit_said : Said → ℕ
bit_said Init = 2
bit_said Roster = 2
bit_said (Value b) = b
bit_said (Proposal c) = bit_chosen c
bit_said (Opinion c) = bit_chosen c

-- what byte 5 of a proposal or an opinion stands for
unfoldable pub chosen_by : ℕ → Option ℕ
chosen_by b = cond (eqb b 2) None (Some b)

unfoldable pub said_by : ℕ → ℕ → Said
said_by k b =
    cond (eqb k 1) Init
    (cond (eqb k 2) Roster
    (cond (eqb k 3) (Value b)
    (cond (eqb k 4) (Proposal (chosen_by b))
    (Opinion (chosen_by b)))))

-- "value 0 or 1; propose and turn 0, 1 or 2 (none); init and roster 2"
unfoldable pub bit_fits : ℕ → ℕ → Bool
bit_fits k b = cond (leb k 2) (eqb b 2) (cond (eqb k 3) (leb b 1) (leb b 2))

-- "0 to 64; 0 unless roster or turn"
unfoldable pub max_count : ℕ → ℕ
max_count k = cond (eqb k 2) max_numbers (cond (eqb k 5) max_numbers 0)

-- ---- content

pub record Content : Type 0 where
  pub round : ℕ
  pub said : Said
  pub numbers : List ℕ

-- ---- the reader

abbrev pub count_of : List ℕ → ℕ
count_of s = cond (leb frame_header (length s)) (half_at s count_at) 0

abbrev pub numbers_of : List ℕ → List ℕ
numbers_of s = words_at s frame_header (count_of s)

-- "Length is exactly 8 + 4 × count"
unfoldable pub length_fits : List ℕ → Bool
length_fits s = eqb (length s) (frame_header + number_width * count_of s)

unfoldable pub round_fits : ℕ → Bool
round_fits t = leb 1 t && leb t last_round

unfoldable pub head_fits : List ℕ → ℕ → Bool
head_fits s t = round_fits t && eqb (word_at s 0) t && eqb (get_or s kind_at 0) (kind_of t)

-- the rows of the count and the numbers, for a frame of kind k; and with them that of the bit
abbrev pub list_fits : List ℕ → ℕ → Bool
list_fits s k = leb (count_of s) (max_count k) && rising 0 (numbers_of s)

unfoldable pub body_fits : List ℕ → ℕ → Bool
body_fits s k = bit_fits k (get_or s bit_at 0) && list_fits s k

-- "11 only for a frame under 8 bytes or whose length isn't 8 + 4 × count"; "12 for round or kind, also if the round given is not 1 to 195, 13 for
-- the rest, tested after 11 in that order"
unfoldable pub read_refusal : List ℕ → ℕ → ℕ
read_refusal s t = first_failed ((length_fits s, 11) ∷ (head_fits s t, 12) ∷ (body_fits s (kind_of t), 13) ∷ [])

abbrev pub content_of : List ℕ → ℕ → Content
content_of s t = record { round = t; said = said_by (kind_of t) (get_or s bit_at 0); numbers = numbers_of s }

unfoldable pub content : List ℕ → ℕ → Option Content
content s t = cond (eqb (read_refusal s t) 0) (Some (content_of s t)) None

-- the papers' number of each cause
abbrev pub void_number : Void → ℕ
void_number WrongLength = 11
void_number WrongRound = 12
void_number WrongContent = 13

-- the number that an answer stands for, 0 where there is no cause
abbrev pub number_checked : Result Unit Void → ℕ
number_checked (Ok u) = 0
number_checked (Err e) = void_number e

abbrev pub number_read : Result Frame Void → ℕ
number_read (Ok f) = 0
number_read (Err e) = void_number e

-- the frame that an answer has
abbrev pub frame_read : Result Frame Void → Option Frame
frame_read (Ok f) = Some f
frame_read (Err e) = None

-- round and saying of a content: its list stays in the bytes
abbrev pub frame_in : Option Content → Option Frame
frame_in None = None
frame_in (Some c) = Some (record { round = c.round; said = c.said })

-- what `read_frame` promises of its answer r. No other answer has both
pub record FrameReads (s : List ℕ) (t : ℕ) (r : Result Frame Void) : Type 0 where
  pub number : number_read r ≡ read_refusal s t
  pub frame : frame_read r ≡ frame_in (content s t)

-- the bit that a content says; 3, which no frame says, for none
abbrev pub bit_in : Option Content → ℕ
bit_in None = 3
bit_in (Some c) = bit_said c.said

-- ---- the writer

abbrev pub chosen_fits : Option ℕ → Bool
chosen_fits (Some b) = leb b 1
chosen_fits None = true

-- a bit is 0 or 1, and there is one way only to say none
abbrev pub said_fits : Said → Bool
said_fits Init = true
said_fits Roster = true
said_fits (Value b) = leb b 1
said_fits (Proposal c) = chosen_fits c
said_fits (Opinion c) = chosen_fits c

unfoldable pub writable : Content → Bool
writable c =
    round_fits c.round && eqb (kind_said c.said) (kind_of c.round) && said_fits c.said
    && leb (length c.numbers) (max_count (kind_said c.said)) && rising 0 c.numbers

unfoldable pub write_refusal : Content → ℕ → ℕ
write_refusal c n = first_failed ((writable c, 10) ∷ (leb max_frame n, 3) ∷ [])

abbrev pub header_bytes : ℕ → ℕ → ℕ → ℕ → List ℕ
header_bytes round kind bit count = word_bytes round ++ (kind ∷ bit ∷ half_bytes count)

unfoldable pub frame_bytes : Content → List ℕ
frame_bytes c = header_bytes c.round (kind_said c.said) (bit_said c.said) (length c.numbers) ++ words_bytes c.numbers

abbrev pub unwritten_number : Unwritten → ℕ
unwritten_number NoRoom = 3
unwritten_number NoFrame = 10

-- the number that an answer stands for, 0 where there is no cause
abbrev pub number_written : Result ℕ Unwritten → ℕ
number_written (Ok n) = 0
number_written (Err e) = unwritten_number e

-- how many bytes are written
abbrev pub length_written : Result ℕ Unwritten → ℕ
length_written (Ok n) = n
length_written (Err e) = 0

-- what `write_frame` promises of its answer r and of the buffer, `before` the call and `after` it
pub record FrameWrites (c : Content) (before : List ℕ) (r : Result ℕ Unwritten) (after : List ℕ) : Type 0 where
  pub refusal : number_written r ≡ write_refusal c (length before)
  pub written : length_written r ≡ cond (eqb (write_refusal c (length before)) 0) (length (frame_bytes c)) 0
  pub output :
      after ≡ cond (eqb (write_refusal c (length before)) 0) (frame_bytes c ++ drop (length (frame_bytes c)) before) before
