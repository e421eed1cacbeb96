-- Words for open_list.rt: the open lists, where they lie. They are no part of the rules: the laws tie them to the rules' words.
--     total f n                  the sum of f 0 to f (n - 1)
--     end_mark                   above every number: what stands behind a list's last one
--     max_lists                  the own list, and one for each number heard
--     list_from w b j o n        open list j of n numbers: the own one, the first places of w, for j = 0, else the one that lies in the tray b from o on
--     open_list w b s n j        the same, where s has where each list starts, and n how many numbers it has
--     Lies w b j o n             such a list can be read
--     Opens w b s n c m          what is known of the m open lists, each sent by as many controllers as c says: they rise, and can be read
--     weighed w b s n c m x      how many sent one of them that has x
--     starts_of, counts_of, sent_of      where the open lists start, how many numbers they have, and how many sent each
--     no_list                    what stands behind the last list
use Rattle.std.specs.Prelude.{ℕ, zero, suc, ◌+◌, ◌*◌, ◌<◌, ◌≤◌, cond, List, map, ◌≡◌, eqb, length, get_or, take}
use Rattle.wire.specs.Limits.{max_numbers}
use Rattle.wire.specs.Words.{words_at}
use Rattle.controller.specs.Lists.{In, mem, Rising}
use Rattle.controller.specs.declared.open_list.OpenList.{OpenList}

abbrev pub total : (ℕ → ℕ) → ℕ → ℕ
total f zero = 0
total f (suc n) = total f n + f n

abbrev pub end_mark : ℕ
end_mark = 4294967296

-- the own list, and one for each number heard
abbrev pub max_lists : ℕ
max_lists = 65

-- the n numbers from a place of the tray on lie in it
abbrev pub NumbersIn : List ℕ → ℕ → ℕ → Type 0
NumbersIn b start n = (i : ℕ) → i < n → start + 4 * i + 4 ≤ length b

-- an offset is two bytes long, and a frame's header follows: no sum of places wraps
abbrev pub start_limit : ℕ
start_limit = 65552

abbrev pub list_from : List ℕ → List ℕ → ℕ → ℕ → ℕ → List ℕ
list_from own b j start count = cond (eqb j 0) (take count own) (words_at b start count)

abbrev pub open_list : List ℕ → List ℕ → List ℕ → List ℕ → ℕ → List ℕ
open_list own b starts counts j = list_from own b j (get_or starts j 0) (get_or counts j 0)

pub record Lies (own b : List ℕ) (j start count : ℕ) : Type 0 where
  pub short : count ≤ max_numbers
  pub low : start < start_limit
  pub mine : j ≡ 0 → count ≤ length own
  pub inside : 0 < j → NumbersIn b start count

pub record Opens (own b s n w : List ℕ) (m : ℕ) : Type 0 where
  pub some : 0 < m
  pub few : m ≤ max_lists
  pub starts : length s ≡ max_lists
  pub counts : length n ≡ max_lists
  pub weights : length w ≡ max_lists
  pub lies : (j : ℕ) → j < m → Lies own b j (get_or s j 0) (get_or n j 0)
  pub rises : (j : ℕ) → j < m → Rising (open_list own b s n j)
  pub fit : (j : ℕ) → j < m → (y : ℕ) → In y (open_list own b s n j) → (0 < y) × (y < end_mark)
  pub light : total (λ (j : ℕ). get_or w j 0) m ≤ max_numbers

abbrev pub weighed : List ℕ → List ℕ → List ℕ → List ℕ → List ℕ → ℕ → ℕ → ℕ
weighed own b starts counts weights m x = total (λ (j : ℕ). cond (mem x (open_list own b starts counts j)) (get_or weights j 0) 0) m

-- ---- the columns of the code's record

abbrev pub starts_of : List OpenList → List ℕ
starts_of l = map (λ (o : OpenList). o.start) l

abbrev pub counts_of : List OpenList → List ℕ
counts_of l = map (λ (o : OpenList). o.count) l

abbrev pub sent_of : List OpenList → List ℕ
sent_of l = map (λ (o : OpenList). o.sent) l

-- what stands behind the last one
abbrev pub no_list : OpenList
no_list = record { start = 0; count = 0; sent = 0 }
