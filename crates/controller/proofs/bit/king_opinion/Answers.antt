-- `controller::bit::king_opinion` meets its contract: a king that is heard stands at its place, and its bit is read there;
-- of one that is not heard nothing is received.
use Rattle.std.specs.Prelude.{ℕ, ◌<◌, true, cond, List, ◌≡◌, leb, eqb, get_or}
use Rattle.std.proofs.Common.{sym, ap, ◌∙◌, arith, le-leb}
use Rattle.std.proofs.lemmas.Bool.{lt-leb}
use Rattle.controller.specs.Bit.{king_opinion}
use Rattle.controller.specs.Laws.Work.Ready.{list_place, ready_few, ready_opinion, ready_unheard}
use Rattle.controller.specs.Laws.State.{rules_heard}
use Rattle.controller.specs.Lists.{mem}
use Rattle.controller.specs.Received.{opinion_in}
use Rattle.controller.specs.State.{view}
use Rattle.controller.specs.Work.Lists.{below}
use Rattle.controller.specs.Work.Received.{received_by, Ready, bit_under}
use Rattle.controller.specs.declared.state.State.{State}
use Rattle.wire.specs.Frame.{kind_of}
use Rattle.wire.specs.Limits.{max_numbers}
use Rattle.wire.specs.Numbers.{listed}
use Rattle.controller.proofs.bit.king_opinion.Goals.{Else-not-has_at, After-received_bit}
use Rattle.controller.proofs.bit.king_opinion.Goals as goal

-- the king is heard, and p is its place
module _ {s : State} {b f : List ℕ} (ready : Ready s b f) (p : ℕ) (at : p ≡ below s.king (listed s.heard)) (there : mem s.king (listed s.heard) ≡ true) where
  placed : (p < s.heard.len) × (get_or s.heard.at p 0 ≡ s.king)
  placed = rw at (list_place s.heard (rules_heard s ready.sound) s.king there)

  -- which is one of 64
  inside : p < max_numbers
  inside = omega (arith, placed, ready_few ready)

  -- d is the bit that is read there, and a what it says if it has no entry
  opinion_is : kind_of s.round ≡ 5 → (a d : ℕ) → a ≡ cond (eqb s.king s.own) s.said 2 → d ≡ bit_under s.round a b (get_or f p 0)
      → king_opinion (view s) (received_by s b) ≡ cond (leb d 1) d 2
  opinion_is turn a d absent read = ready_opinion ready turn p s.king a placed.0 placed.1 absent ∙ rw (← read)

king_inside : (c : Else-not-has_at) → c.place_in-place.result < max_numbers
king_inside c = inside c.requires.ready _ c.place_in-place.ensures (sym c.has_at.ensures ∙ c.if-not-has_at.false)

opinion : (c : After-received_bit) (d : ℕ)
    → d ≡ bit_under c.args.state.now.round c.opinion_of-absent.result c.args.noted.now.tray.now (get_or c.args.noted.now.notes c.place_in-place.result 0)
    → king_opinion (view c.args.state.now) (received_by c.args.state.now c.args.noted.now.tray.now) ≡ cond (leb d 1) d 2
opinion c d =
    let there = sym c.has_at.ensures ∙ c.if-not-has_at.false in
    opinion_is c.requires.ready _ c.place_in-place.ensures there c.requires.kind _ d c.opinion_of-absent.ensures

pub place_in-place-requires : goal.place_in-place-requires
place_in-place-requires c = rules_heard c.args.state.now c.requires.ready.sound

pub has_at-requires-clause-sound : goal.has_at-requires-clause-sound
has_at-requires-clause-sound c = rules_heard c.args.state.now c.requires.ready.sound

pub returns-then-not-has_at-clause-opinion : goal.returns-then-not-has_at-clause-opinion
returns-then-not-has_at-clause-opinion c =
    sym (ap opinion_in (ready_unheard c.requires.ready c.args.state.now.king (sym c.has_at.ensures ∙ c.if-not-has_at.true)))

pub offset_bounds-noted-place : goal.offset_bounds-noted-place
offset_bounds-noted-place c = omega (arith, king_inside (goal.at.offset_bounds-noted-place c).Else-not-has_at)

pub bounds-noted-place : goal.bounds-noted-place
bounds-noted-place c = king_inside (goal.at.bounds-noted-place c).Else-not-has_at

pub returns-in-Some-clause-opinion : goal.returns-in-Some-clause-opinion
returns-in-Some-clause-opinion c =
    sym (opinion (goal.at.returns-in-Some-clause-opinion c).After-received_bit c.in-Some.bit c.in-Some.ensures ∙ rw (le-leb _ 1 c.if-bit-le1.true))

pub returns-in_default-clause-opinion : goal.returns-in_default-clause-opinion
returns-in_default-clause-opinion c =
    sym (opinion (goal.at.returns-in_default-clause-opinion c).After-received_bit c.in-Some.bit c.in-Some.ensures ∙ rw (lt-leb _ 1 c.if-bit-le1.false))

pub returns-in_default-2-clause-opinion : goal.returns-in_default-2-clause-opinion
returns-in_default-2-clause-opinion c = sym (opinion (goal.at.returns-in_default-2-clause-opinion c).After-received_bit 3 c.in_default.ensures)
