-- Words for heads.rt: the lists' heads, in a tree. They are no part of the rules: the laws tie them to the rules' words.
--     slots                      how far the keys of two numbers are apart
--     key_of j y                 number y in list j, as one number: the order of keys is that of numbers
--     Stands l j x k p i         list l, as list j, is passed up to x: k is the key of its first number not below x, p that of the one behind it, at place i
--     Standing w b s n m x t p i    so it is with each of the m open lists; the key of list j is leaf m + j of the tree t
--     Moves l m j t p i k ..     list j of m, l, is moved on: the key k that was behind its head is its leaf now, and the one behind k is read
--     sibling_of i               the node that has the same node above it as node i
--     Ordered t m                each inner node of the tree t, which has m leaves, is the lesser of the two below it
--     Passes w b s n c m x r ..  what passing x makes: r has how many sent a list with x, and the first key then
--     keys_of, places_of         the keys behind the heads, and their places
--     RoomyIn, MovesIn, StandingIn, PassesIn, LinesUp, Passable      these words of the code's records of the heads and the open lists
use Rattle.std.specs.Prelude.{ℕ, ◌+◌, ◌-◌, ◌*◌, ◌/◌, ◌%◌, ◌<◌, ◌≤◌, cond, List, map, ◌≡◌, eqb, min, length, get_or, set}
use Rattle.controller.specs.Work.Lists.{below}
use Rattle.controller.specs.Work.OpenList.{end_mark, max_lists, open_list, weighed, starts_of, counts_of, sent_of}
use Rattle.controller.specs.declared.heads.Ahead.{Ahead}
use Rattle.controller.specs.declared.heads.Heads.{Heads}
use Rattle.controller.specs.declared.heads.Passed.{Passed}
use Rattle.controller.specs.declared.open_list.OpenLists.{OpenLists}

-- more than there are lists, so that a key tells its list
abbrev pub slots : ℕ
slots = 128

abbrev pub key_of : ℕ → ℕ → ℕ
key_of j y = y * slots + j

pub record Stands (l : List ℕ) (j x key next i : ℕ) : Type 0 where
  pub head : key ≡ key_of j (get_or l (below x l) end_mark)
  pub ahead : next ≡ key_of j (get_or l (below x l + 1) end_mark)
  pub place : i ≡ below x l + 1

abbrev pub Standing : List ℕ → List ℕ → List ℕ → List ℕ → ℕ → ℕ → List ℕ → List ℕ → List ℕ → Type 0
Standing own b starts counts m x tree nexts places =
    (j : ℕ) → j < m → Stands (open_list own b starts counts j) j x (get_or tree (m + j) 0) (get_or nexts j 0) (get_or places j 0)

pub record Moves (l : List ℕ) (m j : ℕ) (t p i : List ℕ) (key : ℕ) (t' p' i' : List ℕ) : Type 0 where
  pub head : key ≡ get_or p j 0
  pub tree : t' ≡ set t (m + j) key
  pub nexts : p' ≡ set p j (key_of j (get_or l (get_or i j 0 + 1) end_mark))
  pub places : i' ≡ set i j (get_or i j 0 + 1)

abbrev pub sibling_of : ℕ → ℕ
sibling_of i = cond (eqb (i % 2) 0) (i + 1) (i - 1)

abbrev pub Ordered : List ℕ → ℕ → Type 0
Ordered t m = (p : ℕ) → 0 < p → p < m → get_or t p 0 ≡ min (get_or t (2 * p) 0) (get_or t (2 * p + 1) 0)

-- the room that the walk works in has its sizes
pub record Roomy (t p i : List ℕ) : Type 0 where
  pub tree : length t ≡ 2 * max_lists
  pub nexts : length p ≡ max_lists
  pub places : length i ≡ max_lists

pub record Passes (own b starts counts weights : List ℕ) (m x : ℕ) (r : Passed) (tree nexts places : List ℕ) : Type 0 where
  pub count : r.count ≡ weighed own b starts counts weights m x
  pub first : r.first ≡ get_or tree 1 0
  pub later : x < r.first / slots
  pub ordered : Ordered tree m
  pub standing : Standing own b starts counts m (x + 1) tree nexts places

-- ---- what the functions ask for and do, of the code's records

abbrev pub keys_of : List Ahead → List ℕ
keys_of l = map (λ (a : Ahead). a.key) l

abbrev pub places_of : List Ahead → List ℕ
places_of l = map (λ (a : Ahead). a.at) l

abbrev pub RoomyIn : Heads → Type 0
RoomyIn h = Roomy h.tree (keys_of h.ahead) (places_of h.ahead)

abbrev pub MovesIn : List ℕ → ℕ → ℕ → Heads → ℕ → Heads → Type 0
MovesIn l m j h key g = Moves l m j h.tree (keys_of h.ahead) (places_of h.ahead) key g.tree (keys_of g.ahead) (places_of g.ahead)

abbrev pub Movable : ℕ → ℕ → Heads → Type 0
Movable m j h = (j < m) × RoomyIn h × (get_or (places_of h.ahead) j 0 ≤ max_lists)

-- the open lists are passed up to x
abbrev pub StandingIn : OpenLists → ℕ → Heads → Type 0
StandingIn o x h =
    Standing o.own.now o.tray.now (starts_of o.lists) (counts_of o.lists) o.len x h.tree (keys_of h.ahead) (places_of h.ahead)

pub record LinesUp (o : OpenLists) (h : Heads) : Type 0 where
  pub room : RoomyIn h
  pub ordered : Ordered h.tree o.len
  pub standing : StandingIn o 0 h

pub record Passable (o : OpenLists) (first : ℕ) (h : Heads) : Type 0 where
  pub room : RoomyIn h
  pub least : first ≡ get_or h.tree 1 0
  pub some : first / slots < end_mark
  pub ordered : Ordered h.tree o.len
  pub standing : StandingIn o (first / slots) h

abbrev pub PassesIn : OpenLists → ℕ → Passed → Heads → Type 0
PassesIn o x r h =
    Passes o.own.now o.tray.now (starts_of o.lists) (counts_of o.lists) (sent_of o.lists) o.len x r h.tree (keys_of h.ahead) (places_of h.ahead)
    × RoomyIn h
