-- `controller::opened::own_alone` meets its contract: the own list is open, nobody is counted for it, and what is asked of it is all that open lists ask.
use Rattle.std.proofs.Common.{List, ℕ, ◌<◌, ◌≤◌, length, get_or, set, take, replicate, subst, refl, arith}
use Rattle.wire.specs.Limits.{max_numbers}
use Rattle.wire.specs.Words.{Below}
use Rattle.controller.specs.Lists.{In, Rising}
use Rattle.controller.specs.Laws.Work.Tally.{below_in, below_take}
use Rattle.controller.specs.Work.OpenList.{end_mark, max_lists, open_list, Lies, Opens, starts_of, counts_of, sent_of, no_list}
use Rattle.controller.specs.Work.Tally.{OneList}
use Rattle.controller.specs.declared.open_list.OpenList.{OpenList}
use Rattle.controller.proofs.opened.own_alone.Goals as goal

-- there is no other list
one : (P : ℕ → Type 0) → P 0 → (j : ℕ) → j < 1 → P j
one P p j h = subst P (omega arith) p

abbrev first_list : ℕ → List OpenList
first_list n = set (replicate max_lists no_list) 0 (record no_list { count = n })

alone_opens : {e : List ℕ} (b : List ℕ) {n : ℕ} → Below end_mark e → n ≤ max_numbers → n ≤ length e → OneList (take n e)
    → Opens e b (starts_of (first_list n)) (counts_of (first_list n)) (sent_of (first_list n)) 1
alone_opens {e} b {n} numbers short whole list =
    record {
      some = omega arith;
      few = omega arith;
      starts = refl;
      counts = refl;
      weights = refl;
      lies =
          one (λ j. Lies e b j (get_or (starts_of (first_list n)) j 0) (get_or (counts_of (first_list n)) j 0))
          (record { short = short; low = omega arith; mine = λ q. whole; inside = λ h. absurd (omega arith) });
      rises = one (λ j. Rising (open_list e b (starts_of (first_list n)) (counts_of (first_list n)) j)) list.rises;
      fit =
          one (λ j. (y : ℕ) → In y (open_list e b (starts_of (first_list n)) (counts_of (first_list n)) j) → (0 < y) × (y < end_mark))
          (λ y i. (list.positive y i, below_in (take n e) (below_take n e numbers) y i));
      light = omega arith;
    }

pub invariant_of-result : goal.invariant_of-result
invariant_of-result c =
    record { opens = alone_opens c.args.tray.now (λ i. (c.type_inv.own i).fits) c.requires.few c.requires.inside c.requires.list }
