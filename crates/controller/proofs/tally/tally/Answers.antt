-- `crate::tally::tally` meets its contract: the open lists count as the received ones do; where more than two thirds sent the own list, what is sorted by it
-- alone is sorted by the tally.
use Rattle.std.specs.Prelude.{ℕ, ◌*◌, ◌<◌, List, ◌≡◌, refl, take, Option}
use Rattle.std.proofs.Common.{arith}
use Rattle.wire.specs.Numbers.{listed}
use Rattle.controller.specs.Laws.Work.Alone.{agrees_decides}
use Rattle.controller.specs.Laws.Work.Opened.{own_places, own_sound}
use Rattle.controller.specs.Laws.Work.Ready.{ready_few}
use Rattle.controller.specs.Work.Opened.{noted_list, having}
use Rattle.controller.specs.Work.Own.{AgreesOwn}
use Rattle.controller.specs.Work.Received.{sent_count, Ready}
use Rattle.controller.specs.Work.Tally.{Sorts, SortsOne}
use Rattle.controller.specs.declared.state.State.{State}
use Rattle.controller.specs.declared.tally.Settled.{Settled}
use Rattle.controller.proofs.Tallied.{somebody, starts, tallied}
use Rattle.controller.proofs.tally.tally.Goals as goal

-- the own list decides
decides : {s : State} {b t : List ℕ} {k n : ℕ} (o : Option Unit) (r : Settled) → Ready s b t → AgreesOwn s b t k → 2 * s.heard.len < 3 * k → n ≡ sent_count s
    → SortsOne (take n s.echoes.at) k s.heard.len s.candidates o r → Sorts (having (noted_list s b t) s.heard.len) s.heard.len (listed s.candidates) o r
decides {s} {b} {t} {k} o r ready agrees most sent sorts =
    agrees_decides (noted_list s b t) (take (sent_count s) s.echoes.at) s.heard.len k (somebody ready) agrees.agrees most (listed s.candidates) o r
    (rw sent at sorts)

pub overflow_mul-h : goal.overflow_mul-h
overflow_mul-h c = record { fits = omega (arith, ready_few c.requires.ready) }

pub overflow_mul-equal : goal.overflow_mul-equal
overflow_mul-equal c = record { fits = omega (arith, ready_few c.requires.ready, c.count_own-equal.ensures.few) }

pub shared_ref_as_front-own : goal.shared_ref_as_front-own
shared_ref_as_front-own c = omega (arith, c.sent_count.ensures, (own_sound c.requires.ready).0)

pub settle_own-requires-clause-start : goal.settle_own-requires-clause-start
settle_own-requires-clause-start c = starts c.requires.ready c.requires.echoes c.requires.candidates c.requires.place

pub settle_own-requires-clause-list : goal.settle_own-requires-clause-list
settle_own-requires-clause-list c =
    let own = (own_sound c.requires.ready).1 in
    rw c.sent_count.ensures (record { rises = own.rises; positive = own.positive })

pub settle_own-requires-clause-few : goal.settle_own-requires-clause-few
settle_own-requires-clause-few c = omega (arith, c.count_own-equal.ensures.few, ready_few c.requires.ready)

pub returns-then-h-equal : goal.returns-then-h-equal
returns-then-h-equal c =
    tallied c.requires.ready _ _ _ (λ x. refl)
    (decides _ _ c.requires.ready c.count_own-equal.ensures c.if-h-equal.true c.sent_count.ensures (rw c.requires.candidates at c.settle_own.ensures))

pub own_alone-opened-requires-clause-few : goal.own_alone-opened-requires-clause-few
own_alone-opened-requires-clause-few c = rw c.sent_count-else-h-equal.ensures (own_sound c.requires.ready).0

pub own_alone-opened-requires-clause-inside : goal.own_alone-opened-requires-clause-inside
own_alone-opened-requires-clause-inside c =
    omega (arith, c.sent_count-else-h-equal.ensures, (own_sound c.requires.ready).0, own_places c.requires.ready)

pub own_alone-opened-requires-clause-list : goal.own_alone-opened-requires-clause-list
own_alone-opened-requires-clause-list c =
    let own = (own_sound c.requires.ready).1 in
    rw c.sent_count-else-h-equal.ensures (record { rises = own.rises; positive = own.positive })

pub open_lists-requires-clause-own : goal.open_lists-requires-clause-own
open_lists-requires-clause-own c = rw c.sent_count-else-h-equal.ensures at c.own_alone-opened.ensures

pub settle_all-requires : goal.settle_all-requires
settle_all-requires c = starts c.requires.ready c.requires.echoes c.requires.candidates c.requires.place

pub returns-else-h-equal : goal.returns-else-h-equal
returns-else-h-equal c = tallied c.requires.ready _ _ _ c.open_lists.ensures.counted (rw c.requires.candidates at c.settle_all.ensures)
