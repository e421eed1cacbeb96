-- `crate::heads::Heads::line_up` meets its contract: the lists gone through stand at their first numbers, and `build` leaves the leaves as they are.
use Rattle.std.proofs.Common.{ℕ, ◌+◌, ◌<◌, get_or}
use Rattle.controller.specs.Work.Opened.{nth_open}
use Rattle.controller.specs.Work.Heads.{keys_of, places_of, RoomyIn, Stands}
use Rattle.controller.specs.declared.heads.Heads.{Heads}
use Rattle.controller.specs.declared.open_list.OpenLists.{OpenLists}
use Rattle.controller.proofs.heads.Heads.line_up.Given as goal

-- the first j lists stand at their first numbers
pub record Lining (o : OpenLists) (h : Heads) (j : ℕ) : Type 0 where
  pub room : RoomyIn h
  pub lined : (k : ℕ) → k < j → Stands (nth_open o k) k 0 (get_or h.tree (o.len + k) 0) (get_or (keys_of h.ahead) k 0) (get_or (places_of h.ahead) k 0)

abbrev pub invariant-loop-j : goal.invariant-loop-j
invariant-loop-j l = Lining l.opened l.self l.j
