-- `controller::own::sent_list` meets its contract: who has no entry counts as having sent the list; bytes that are no more than a header list nothing; and
-- equal bytes list the same.
use Rattle.std.proofs.Common.{List, Bool, ℕ, [], true, false, cond, ◌+◌, ◌-◌, ◌∙◌, ◌≡◌, ◌≤◌, leb, length, take, drop, sym, ap}
use Rattle.std.proofs.Common.{length-take, le-leb, arith}
use Rattle.wire.specs.Found.{meaning}
use Rattle.wire.specs.Frame.{content}
use Rattle.wire.specs.Laws.Found.{same_is}
use Rattle.wire.specs.Limits.{frame_header}
use Rattle.wire.specs.Notes.{found_by}
use Rattle.wire.specs.Tray.{part}
use Rattle.wire.specs.declared.found.Found.{Found}
use Rattle.wire.specs.declared.found.Found.TheVariants.{At}
use Rattle.controller.specs.Laws.Work.Own.{short_list}
use Rattle.controller.specs.Received.{read_in, list_in}
use Rattle.controller.specs.Work.Opened.{list_under}
use Rattle.controller.proofs.Noted.{read_at}
use Rattle.controller.proofs.own.sent_list.Goals as goal

-- a part has no more bytes than are asked for
part_most : (b : List ℕ) (o n : ℕ) → length (part b o n) ≤ n
unfolding part
part_most b o n = pick (leb (o + n) (length b))
  where
    pick : (x : Bool) → length (cond x (take n (drop o b)) []) ≤ n
    pick true = omega (arith, length-take n (drop o b))
    pick false = omega arith

-- and has them all where it lies in the bytes
part_inside : (b : List ℕ) (o n : ℕ) → o + n ≤ length b → part b o n ≡ take (o + n - o) (drop o b)
unfolding part
part_inside b o n inside = let size : o + n - o ≡ n = omega arith in rw (le-leb (o + n) (length b) inside, size)

module _ (s b : List ℕ) (k t o n : ℕ) (found : At o n ≡ found_by k) where
  under : list_under t (list_in (content s t)) b k ≡ list_in (content (part b o n) t)
  under = read_at (list_in (content s t)) (λ (f : Found). list_in (read_in t (meaning b f))) k o n found

  header : n ≡ length s → n ≡ frame_header → list_under t (list_in (content s t)) b k ≡ list_in (content s t)
  header long e =
      let most = part_most b o n in
      under ∙ short_list (part b o n) t (omega arith) ∙ sym (short_list s t (omega arith))

  bytes : o + n ≤ length b → take (o + n - o) (drop o b) ≡ s → list_under t (list_in (content s t)) b k ≡ list_in (content s t)
  bytes inside same = under ∙ ap (λ (p : List ℕ). list_in (content p t)) (part_inside b o n inside ∙ same)

pub returns-in-At-2 : goal.returns-in-At-2
returns-in-At-2 c t h = header c.args.frame.now c.args.tray.now c.args.note t _ _ c.in-At.ensures c.if-len-frame.false c.if-len-eq-FRAME_HEADER.true

pub returns-in-Some : goal.returns-in-Some
returns-in-Some c t h =
    let list = c.in-Some.ensures.lookup.0 in
    let same = sym list.2 ∙ same_is _ _ (sym c.same_bytes.ensures ∙ h) in
    bytes c.args.frame.now c.args.tray.now c.args.note t _ _ c.in-At.ensures list.1 same
