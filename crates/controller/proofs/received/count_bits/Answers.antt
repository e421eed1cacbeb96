-- `controller::received::count_bits` meets its contract: after j turns the two totals are the counts over the first j of those heard.
use mir.Val.{bool_byte}
use Rattle.std.specs.Prelude.{ℕ, ◌+◌, ◌≤◌, ◌<◌, Bool, true, false, cond, List, ◌≡◌, refl, eqb, length, take}
use Rattle.std.proofs.Common.{sym, ap, ◌∙◌, arith, length-take, length-take-le, get_or-take}
use Rattle.std.proofs.Math.ListN.{get_or}
use Rattle.std.proofs.Math.Seq.{take_all}
use Rattle.controller.specs.Laws.Lists.{count_further}
use Rattle.controller.specs.Laws.Work.Ready.{ready_few, ready_listed, ready_used, ready_says}
use Rattle.controller.specs.Lists.{count_if}
use Rattle.controller.specs.Work.Received.{received_by, Ready, Votes}
use Rattle.controller.specs.declared.state.State.{State}
use Rattle.wire.specs.Heads.{Short, head_of}
use Rattle.wire.specs.Numbers.{listed}
use Rattle.controller.proofs.received.count_bits.Invariants.{counted, total}
use Rattle.controller.proofs.received.count_bits.Goals as goal

-- a test as a number
one : (t : Bool) → (bool_byte t ≤ 1) × (bool_byte t ≡ cond t 1 0)
one true = (omega arith, refl)
one false = (omega arith, refl)

module _ {s : State} {b f : List ℕ} (ready : Ready s b f) (short : Short s.round) (bit j n : ℕ) (sum : n ≡ total s b bit j) where
  -- one turn: the header that is read at place j is compared with that of the bit
  turn : (head said : ℕ) → bit < 2 → j < s.heard.len → Votes s.round s.said b (get_or f j 0) head → said ≡ head_of s.round bit
      → n + bool_byte (eqb head said) ≡ total s b bit (j + 1)
  turn head said l h read is =
      let vote : bool_byte (eqb head said) ≡ cond (counted s b bit (get_or (listed s.heard) j 0)) 1 0 =
      (one (eqb head said)).1
      ∙ ap (λ (t : Bool). cond t 1 0) (rw is (read bit l) ∙ ready_says ready j bit h (omega arith) (λ e. omega (arith, short.most))) in
      rw (sum, vote) (sym (count_further (counted s b bit) (listed s.heard) j (omega (arith, h, ready_used ready))))

  -- the last turn has counted all of them
  ended : s.heard.len ≤ j → n ≡ count_if (counted s b bit) (received_by s b).heard
  ended h = sum ∙ ap (count_if (counted s b bit)) (take_all j (listed s.heard) (omega (arith, h, ready_used ready)) ∙ ready_listed ready)

pub shared_ref_as_front-note-items : goal.shared_ref_as_front-note-items
shared_ref_as_front-note-items c = ready_few c.requires.ready

pub loop-note-preserved : goal.loop-note-preserved
loop-note-preserved c =
    let v = c.loop-note in
    let notes : List ℕ = c.args.noted.now.notes in
    let inside : v.note-index < c.args.state.now.heard.len = omega (arith, length-take c.args.state.now.heard.len notes) in
    let note : get_or (take c.args.state.now.heard.len notes) v.note-index 0 ≡ get_or notes v.note-index 0 = get_or-take _ notes _ 0 inside in
    let head = c.short_head-head.result in
    let said = rw note at (c.short_head-head.ensures _ _ c.requires.short c.head_of-own.ensures) in (
      omega (arith, one (eqb head c.head_of-zero.result)),
      omega (arith, one (eqb head c.head_of-one.result)),
      turn c.requires.ready c.requires.short 0 v.note-index v.zeros v.invariant.2 head _ (omega arith) inside said c.head_of-zero.ensures,
      turn c.requires.ready c.requires.short 1 v.note-index v.ones v.invariant.3 head _ (omega arith) inside said c.head_of-one.ensures,
    )

pub returns : goal.returns
returns c =
    let v = c.loop-note in
    let all : length (take c.args.state.now.heard.len c.args.noted.now.notes) ≡ c.args.state.now.heard.len =
    length-take-le _ c.args.noted.now.notes (omega (arith, ready_few c.requires.ready)) in
    record {
      zeros = ended c.requires.ready c.requires.short 0 v.note-index v.zeros v.invariant.2 (omega (arith, all));
      ones = ended c.requires.ready c.requires.short 1 v.note-index v.ones v.invariant.3 (omega (arith, all));
    }
