-- Words for received.rt: who is heard, and what is had from each. They are no part of the rules: the laws tie them to the rules' words.
--     noted b k              what the note k says of the tray b
--     others_only o l        neither 0 nor o is in l
--     heard_after b l        those heard, l, with the senders of the tray b
--     senders_from b i       the senders of the tray b from entry i on; note_on b x i, the note on x that these entries give
--     HearsFrom o b l n f i  from l, the list n are those heard with the senders from entry i on, none of which is 0 or the own number o, and f has a note on
--                            each of them
--     Hears o b l r n f      r says whether the senders of the tray b fit, o being the own number, and at most 64 are then heard; if so, the list n is
--                            the stored form of those, and f has a note on each of them
--     received_by s b        what the state s has received with the tray b
--     Ready s b f            what a step finds: a state s that has not decided and is sound, but for its record, a tray b whose senders are all heard and
--                            none is oneself, and in f a note on each number heard; the own number's, like that of one that is silent, is none
--     bit_had o              the bit that an answer has; 3, which no frame says, for none
--     bit_under t d b k      the bit of the frame that the note k is of, read in round t; d where it is of none, 3 where it is of a void frame or of several
--     Votes t d b k r        r is the header of a frame of round t that says that bit, where it is 0 or 1, and of neither such frame where it is not
--     CountsBits k r n       n has how many of those heard sent each bit in a frame of kind k, where r was received
--     sent_count s           how many numbers the frame of the state s lists
use Rattle.std.specs.Prelude.{ℕ, ◌-◌, ◌<◌, ◌≤◌, Bool, true, cond, not, ◌&&◌, List, ◌≢◌, ◌≡◌, leb, ltb, eqb, length, get_or, Option, Some, None}
use Rattle.wire.specs.Limits.{max_numbers}
use Rattle.wire.specs.Numbers.{stored, listed}
use Rattle.wire.specs.Found.{Under, meaning, found}
use Rattle.wire.specs.Notes.{no_frame, found_by, note_from}
use Rattle.wire.specs.Tray.{well_formed, entry_count, entries_from, entries}
use Rattle.wire.specs.Frame.{kind_of, max_count, bit_in}
use Rattle.wire.specs.Heads.{head_of}
use Rattle.wire.specs.declared.frame.Numbers.{Numbers}
use Rattle.controller.specs.Lists.{In, mem, insert_all}
use Rattle.controller.specs.State.{view, undecided, sound_list, sound_rules}
use Rattle.controller.specs.Received.{Received, senders, read_in, receive, says, count}
use Rattle.controller.specs.declared.state.State.{State}
use Rattle.controller.specs.declared.counts.Counts.{Counts}

abbrev pub noted : List ℕ → ℕ → Under
noted b k = meaning b (found_by k)

-- neither 0 nor the own number is among them
abbrev pub others_only : ℕ → List ℕ → Bool
others_only own xs = not (mem 0 xs) && not (mem own xs)

abbrev pub heard_after : List ℕ → List ℕ → List ℕ
heard_after b l = insert_all (senders (entries b)) l

abbrev pub senders_from : List ℕ → ℕ → List ℕ
senders_from b i = senders (entries_from b (entry_count b - i) i)

abbrev pub note_on : List ℕ → ℕ → ℕ → ℕ
note_on b x i = note_from b x (entry_count b - i) i

pub record HearsFrom (own : ℕ) (b l : List ℕ) (list : Numbers) (f : List ℕ) (i : ℕ) : Type 0 where
  pub inside : i ≤ entry_count b
  pub sound : sound_list list ≡ true
  pub heard : listed list ≡ insert_all (senders_from b i) l
  pub others : (x : ℕ) → In x (senders_from b i) → (x ≢ 0) × (x ≢ own)
  pub places : length f ≡ max_numbers
  pub notes : (j : ℕ) → j < length (listed list) → get_or f j 0 ≡ note_on b (get_or (listed list) j 0) i

pub record Hears (own : ℕ) (b l : List ℕ) (r : Bool) (n : Numbers) (f : List ℕ) : Type 0 where
  pub fits : r ≡ (others_only own (senders (entries b)) && leb (length (heard_after b l)) max_numbers)
  pub list : r ≡ true → n ≡ stored (heard_after b l)
  pub notes : r ≡ true → (j : ℕ) → j < length (heard_after b l) → found_by (get_or f j 0) ≡ found b (get_or (heard_after b l) j 0)

abbrev pub received_by : State → List ℕ → Received
received_by s b = receive (view s) (entries b)

pub record Ready (s : State) (b f : List ℕ) : Type 0 where
  pub sound : sound_rules s ≡ true
  pub active : undecided (view s) ≡ true
  pub packed : well_formed b ≡ true
  pub numbered : ¬ In 0 (senders (entries b))
  pub others : ¬ In s.own (senders (entries b))
  pub heard : (received_by s b).heard ≡ listed s.heard
  pub notes : (j : ℕ) → j < length (listed s.heard) → found_by (get_or f j 0) ≡ found b (get_or (listed s.heard) j 0)

abbrev pub bit_had : Option ℕ → ℕ
bit_had None = 3
bit_had (Some b) = b

abbrev pub bit_under : ℕ → ℕ → List ℕ → ℕ → ℕ
bit_under round absent b k = cond (eqb k no_frame) absent (bit_in (read_in round (noted b k)))

abbrev pub Votes : ℕ → ℕ → List ℕ → ℕ → ℕ → Type 0
Votes round absent b k r = (bit : ℕ) → bit < 2 → eqb r (head_of round bit) ≡ eqb (bit_under round absent b k) bit

pub record CountsBits (k : ℕ) (r : Received) (n : Counts) : Type 0 where
  pub zeros : n.zeros ≡ count (says k 0) r
  pub ones : n.ones ≡ count (says k 1) r

-- the echoes, in a roster and a turn
abbrev pub sent_count : State → ℕ
sent_count s = cond (ltb 0 (max_count (kind_of s.round))) s.echoes.len 0
