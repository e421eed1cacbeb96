-- `crate::heads::Heads::line_up` meets its contract: the lists gone through stand at their first numbers, and `build` leaves the leaves as they are.
use Rattle.std.proofs.Common.{ℕ, ◌+◌, ◌<◌, ◌≡◌, set, get_or, arith}
use Rattle.std.proofs.lemmas.List.{map-set}
use Rattle.controller.specs.Work.OpenList.{end_mark}
use Rattle.controller.specs.Work.Opened.{nth_open}
use Rattle.controller.specs.Work.Heads.{key_of, Stands}
use Rattle.controller.specs.Laws.Work.Heads.{stands_first, room_set, heads_set}
use Rattle.controller.specs.declared.heads.Ahead.{Ahead}
use Rattle.controller.specs.declared.heads.Heads.{Heads}
use Rattle.controller.specs.declared.open_list.OpenLists.{OpenLists}
use Rattle.controller.proofs.heads.Heads.line_up.Invariants.{Lining}
use Rattle.controller.proofs.heads.Heads.line_up.Goals as goal

lines : {o : OpenLists} {h : Heads} {j : ℕ} (key next : ℕ) → Lining o h j → j < o.len
    → key ≡ key_of j (get_or (nth_open o j) 0 end_mark) → next ≡ key_of j (get_or (nth_open o j) 1 end_mark)
    → Lining o (record { tree = set h.tree (o.len + j) key; ahead = set h.ahead j (record { key = next; at = 1 }) }) (j + 1)
lines {o} {h} {j} key next g inside e f =
    let first = stands_first (nth_open o j) j key next e f in
    let keys = map-set (λ (a : Ahead). a.key) h.ahead j (record { key = next; at = 1 }) in
    let places = map-set (λ (a : Ahead). a.at) h.ahead j (record { key = next; at = 1 }) in
    record {
      room = rw (keys, places) (room_set j _ key next 1 g.room);
      lined = λ k l. rw (keys, places) (heads_set (λ r. Stands (nth_open o r) r 0) g.room o.opens.few inside first k (λ d. g.lined k (omega arith)));
    }

pub loop-j-preserved : goal.loop-j-preserved
loop-j-preserved c =
    lines c.key_at.result c.key_at-in-loop-j.result c.loop-j.invariant c.loop-j-test.true c.key_at.ensures c.key_at-in-loop-j.ensures
