-- `controller::first::take_over` meets its contract: where nobody is new, the lists are the same, and the record stays where it is.
use Rattle.std.proofs.Common.{arith, ap, sym, length, ◌∙◌, ◌≡◌, ◌≤◌, ℕ, List}
use Rattle.wire.specs.Limits.{max_numbers}
use Rattle.wire.specs.Numbers.{listed}
use Rattle.wire.specs.declared.frame.Numbers.{Numbers}
use Rattle.controller.specs.Laws.State.{sound_list_gives}
use Rattle.controller.specs.Laws.Work.Moved.{grown_same, moved_same}
use Rattle.controller.specs.Work.First.{Grown, moved_to}
use Rattle.controller.proofs.first.take_over.Goals as goal

-- nobody is new
stays : (n m : Numbers) (t : ℕ) (w : List ℕ) → Grown n m → length w ≡ max_numbers → m.len ≤ n.len → w ≡ moved_to (listed n) (listed m) t w
stays n m t w g size short =
    let few = (sound_list_gives n g.fewer).list in
    let kept = sym (moved_same (listed n) w t few.rises (omega (arith, few.short))) in
    kept ∙ ap (λ (k : Numbers). moved_to (listed n) (listed k) t w) (sym (grown_same n m g short))

pub returns-else-heard-all : goal.returns-else-heard-all
returns-else-heard-all c =
    stays c.args.heard.now c.args.all.now c.args.round c.args.since.now c.requires c.told-since c.if-heard-all.false
