-- Words for opened.rt: the received lists, where they lie. They are no part of the rules: the laws tie them to the rules' words.
--     SpanOf b l o n             the list l has n numbers, of 32 bits, that lie in the tray b from o on
--     list_under t l b k         the list of the frame that the note k is of, read in round t; the own list l where it is of none
--     noted_list s b t j         the list received by the state s with note j of t
--     having l h x               how many of the lists l 0 to l (h - 1) have x
--     nth_open o j, weighed_in o x      these words of the lists in the code's record of them
--     OpensOwn e b n o           the own list alone is open, n numbers of e; nobody is counted for it
--     received_list t o k        the list of the frame that the note k is of, or the own one, which is list 0
--     Recalls t o k j            open list j is the list of the note k
--     Finds l o r                r is the place where l is open; where it is not sure to be, as an error, it is l itself, which one sent
--     sent_in o                  how many sent one of the open lists
--     Placeable t o k j          there is room for one list more behind the open ones, of which list j is that of the note k, and for one more that sent it
--     Adds l o r p               the lists p are those of o with one more that sent l, which is list r of them
--     OpensAll s b t o           the open lists count each number as the lists received with the notes do
use Rattle.std.specs.Prelude.{ℕ, ◌+◌, ◌<◌, ◌≤◌, cond, List, ◌≡◌, eqb, get_or, take, Result, Ok, Err}
use Rattle.wire.specs.Limits.{max_numbers}
use Rattle.wire.specs.Notes.{no_frame}
use Rattle.wire.specs.Words.{words_at, Below}
use Rattle.controller.specs.Lists.{mem}
use Rattle.controller.specs.Received.{read_in, list_in}
use Rattle.controller.specs.Work.Received.{noted, sent_count}
use Rattle.controller.specs.Work.OpenList.{total, end_mark, max_lists, NumbersIn, start_limit, open_list, weighed, starts_of, counts_of, sent_of, no_list}
use Rattle.controller.specs.declared.open_list.OpenList.{OpenList}
use Rattle.controller.specs.declared.open_list.OpenLists.{OpenLists}
use Rattle.controller.specs.declared.state.State.{State}

pub record SpanOf (b l : List ℕ) (start count : ℕ) : Type 0 where
  pub is : words_at b start count ≡ l
  pub low : start < start_limit
  pub inside : NumbersIn b start count
  pub words : Below end_mark l

abbrev pub list_under : ℕ → List ℕ → List ℕ → ℕ → List ℕ
list_under round own b k = cond (eqb k no_frame) own (list_in (read_in round (noted b k)))

abbrev pub noted_list : State → List ℕ → List ℕ → ℕ → List ℕ
noted_list s b t j = list_under s.round (take (sent_count s) s.echoes.at) b (get_or t j 0)

abbrev pub having : (ℕ → List ℕ) → ℕ → ℕ → ℕ
having l h x = total (λ (j : ℕ). cond (mem x (l j)) 1 0) h

-- ---- the same, of the code's record of the open lists

abbrev pub nth_open : OpenLists → ℕ → List ℕ
nth_open o j = open_list o.own.now o.tray.now (starts_of o.lists) (counts_of o.lists) j

abbrev pub weighed_in : OpenLists → ℕ → ℕ
weighed_in o x = weighed o.own.now o.tray.now (starts_of o.lists) (counts_of o.lists) (sent_of o.lists) o.len x

-- the own list alone is open, of n numbers
pub record OpensOwn (e b : List ℕ) (n : ℕ) (o : OpenLists) : Type 0 where
  pub own : o.own.now ≡ e
  pub tray : o.tray.now ≡ b
  pub len : o.len ≡ 1
  pub first : get_or o.lists 0 no_list ≡ record no_list { count = n }

-- the list received with a note, where list 0 is the own one
abbrev pub received_list : ℕ → OpenLists → ℕ → List ℕ
received_list round o note = list_under round (nth_open o 0) o.tray.now note

-- list slot is that of the note last
pub record Recalls (round : ℕ) (o : OpenLists) (last slot : ℕ) : Type 0 where
  pub one : slot < o.len
  pub same : nth_open o slot ≡ received_list round o last

-- list l is open at place r, or it lies where a says
abbrev pub Finds : List ℕ → OpenLists → Result ℕ OpenList → Type 0
Finds l o (Ok r) = (r < o.len) × (l ≡ nth_open o r)
Finds l o (Err a) = SpanOf o.tray.now l a.start a.count × (a.sent ≡ 1)

-- how many sent one of the lists
abbrev pub sent_in : OpenLists → ℕ
sent_in o = total (λ (j : ℕ). get_or (sent_of o.lists) j 0) o.len

pub record Placeable (round : ℕ) (o : OpenLists) (last slot : ℕ) : Type 0 where
  pub free : o.len < max_lists
  pub light : sent_in o < max_numbers
  pub recalls : Recalls round o last slot

-- the lists p are those of o with one more that sent l, which is list r of them
pub record Adds (l : List ℕ) (o : OpenLists) (r : ℕ) (p : OpenLists) : Type 0 where
  pub own : p.own.now ≡ o.own.now
  pub tray : p.tray.now ≡ o.tray.now
  pub one : r < p.len
  pub list : nth_open p r ≡ l
  pub kept : (j : ℕ) → j < o.len → nth_open p j ≡ nth_open o j
  pub more : o.len ≤ p.len
  pub few : p.len ≤ o.len + 1
  pub sent : sent_in p ≡ sent_in o + 1
  pub counts : (x : ℕ) → weighed_in p x ≡ weighed_in o x + cond (mem x l) 1 0

pub record OpensAll (s : State) (b t : List ℕ) (o : OpenLists) : Type 0 where
  pub own : o.own.now ≡ s.echoes.at
  pub tray : o.tray.now ≡ b
  pub counted : (x : ℕ) → weighed_in o x ≡ having (noted_list s b t) s.heard.len x
