-- `controller::own::count_own` meets its contract: what is written has the own list, so that those who are sure to have sent it are sure to have sent that.
use Rattle.std.proofs.Common.{List, ℕ, cond, ◌<◌, ◌≡◌, ◌≤◌, length, get_or, get_or-take, length-take-le, take, ap, arith}
use Rattle.wire.specs.Frame.{content}
use Rattle.controller.specs.Lists.{mem}
use Rattle.controller.specs.Laws.Work.Opened.{own_sound}
use Rattle.controller.specs.Laws.Work.Ready.{ready_few}
use Rattle.controller.specs.Laws.Work.Total.{total_same}
use Rattle.controller.specs.Received.{list_in}
use Rattle.controller.specs.Work.Opened.{list_under}
use Rattle.controller.specs.Work.Own.{Agrees, SharesList}
use Rattle.controller.proofs.own.count_own.Goals as goal

-- lists that are the same agree alike
agrees_alike : (l k : ℕ → List ℕ) (m : List ℕ) (h n : ℕ) → ((j : ℕ) → j < h → l j ≡ k j) → Agrees l m h n → Agrees k m h n
agrees_alike l k m h n same agrees y =
    let has : List ℕ → ℕ = λ p. cond (mem y p) 1 0 in
    let e = total_same (λ j. has (l j)) (λ j. has (k j)) h (λ j i. ap has (same j i)) in
    (λ t. omega (arith, e, (agrees y).0 t), λ t. omega (arith, e, (agrees y).1 t))

-- of the first h notes it is told in the round that the list m is written in
shared : (h round : ℕ) (s b t m : List ℕ) (n : ℕ) → h ≤ length t → list_in (content s round) ≡ m → SharesList (length (take h t)) s b (take h t) n
    → (n ≤ h) × Agrees (λ j. list_under round m b (get_or t j 0)) m h n
shared h round s b t m n few is shares =
    let size = length-take-le h t few in (
      rw size at shares.few,
      agrees_alike (λ j. list_under round m b (get_or (take h t) j 0)) (λ j. list_under round m b (get_or t j 0)) m h n
          (λ j i. ap (list_under round m b) (get_or-take h t j 0 i)) (rw (size, is) at (shares.agrees round)),
    )

pub write_own-len-requires-clause-few : goal.write_own-len-requires-clause-few
write_own-len-requires-clause-few c = (own_sound c.requires).0

pub shared_ref_as_front-count_list : goal.shared_ref_as_front-count_list
shared_ref_as_front-count_list c = ready_few c.requires

pub returns : goal.returns
returns c =
    let few = ready_few c.requires in
    let s = c.args.state.now in
    let own = c.write_own-len.ensures.own c.requires.sound c.requires.active in
    let both = shared s.heard.len s.round _ c.args.noted.now.tray.now c.args.noted.now.notes _ _ (omega arith) own c.count_list.ensures in
    record { few = both.0; agrees = both.1 }
