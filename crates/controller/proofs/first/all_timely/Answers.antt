-- `controller::first::all_timely` meets its contract: the latest of the rounds passed is timely exactly if all of them are.
use Rattle.std.proofs.Common.{arith, ap, add-one, take-suc, take_all, length, get_or, take, leb, max, ◌&&◌, ◌∙◌, ◌≡◌, ◌+◌, ◌<◌, ℕ, List}
use Rattle.std.proofs.Math.Bool.{and-true}
use Rattle.std.proofs.Math.Dec.{leb-suc-suc}
use Rattle.std.proofs.lemmas.Bool.Decides.{nat_tests}
use Rattle.controller.specs.Laws.Work.First.{timely_append}
use Rattle.controller.specs.Work.First.{timely}
use Rattle.controller.proofs.first.all_timely.Goals as goal

-- the later of two is early enough exactly if both are
later : (x y n : ℕ) → leb (max x y) n ≡ (leb y n && leb x n)
later x y n = grind (arith, nat_tests)

further : (s : List ℕ) (i last : ℕ) → i < length s → leb last 194 ≡ timely (take i s)
    → leb (max (get_or s i 0) last) 194 ≡ timely (take (i + 1) s)
further s i last h e =
    let x = get_or s i 0 in
    later x last 194 ∙ rw (e, add-one i, take-suc s i 0, timely_append, and-true, leb-suc-suc x 194)

pub loop-round-preserved : goal.loop-round-preserved
loop-round-preserved c = rw c.max-last.ensures (further c.args.rounds.now _ _ c.loop-round-test.true c.loop-round.invariant)

pub returns : goal.returns
returns c = c.loop-round.invariant ∙ ap timely (take_all _ c.args.rounds.now c.loop-round-test.false)
