-- `controller_c::controller_tray` meets its contract: an image of the right shape leaves the refusal to the controller's call on the state in it,
-- and what the call's changes leave out did not change.
use Rattle.std.specs.Prelude.{eqb, true, false, drop, length, refl, ◌<◌}
use Rattle.std.proofs.Common.{sym, ne_eqb, arith, rules, ℕ, List, ◌≡◌, ◌∙◌}
use Rattle.std.specs.Array.{IsWholeChunk}
use Rattle.controller.specs.Calls.{TrayPromise}
use Rattle.controller.specs.Refusals.{tray_refusal}
use Rattle.controller.specs.declared.state.Answer.{Answer}
use Rattle.controller.specs.declared.state.State.{State}
use Rattle.controller_c.specs.Calls.{TrayImagePromise, tray_image_refusal}
use Rattle.controller_c.specs.Image.{image_bytes, reserved_at, laid_out, taken_apart, shaped, zeros, LaysOver}
use Rattle.controller_c.specs.Laws.Calls.{shaped_refusal, unshaped_refusal}
use Rattle.controller_c.specs.Laws.Changed.{tray_lays_over}
use Rattle.controller_c.specs.Laws.Image.{whole_shaped, other_unshaped}
use Rattle.controller_c.proofs.controller_tray.Goals as goal

-- the image b, as the array d, with the state s in it; and the controller's answer a
module _ {b d : List ℕ} (t : List ℕ) {before after : List ℕ} {s : State} {a : Answer}
    (w : IsWholeChunk b d image_bytes) (z : true ≡ zeros (drop reserved_at d)) (e : s ≡ taken_apart d) (p : TrayPromise s t before a after) where
  tests : tray_image_refusal b t (length before) ≡ tray_refusal s t (length before)
  tests = grind (arith, shaped_refusal, whole_shaped)

  changed : a.refusal ≡ 0 → LaysOver s.heard.len a.state d
  changed h = grind (arith, tray_lays_over, whole_shaped)

  stored : (c : List ℕ) → a.refusal ≡ 0 → c ≡ laid_out a.state → TrayImagePromise b t before 0 c after a.length
  stored c h q = grind (arith, tests)

  left : (r : ℕ) → 0 < r → r ≡ a.refusal → TrayImagePromise b t before r d after a.length
  left r h q =
      let some : eqb (tray_refusal s t (length before)) 0 ≡ false = ne_eqb _ 0 (omega (arith, p.number)) in
      grind (arith, tests)

-- no image
refused : (b d t before : List ℕ) (r l : ℕ) → shaped b ≡ false → d ≡ b → r ≡ 1 → l ≡ 0 → TrayImagePromise b t before r d before l
refused b d t before r l h q number written = grind (arith, unshaped_refusal)

pub lay_over-requires : goal.lay_over-requires
lay_over-requires c = changed _ c.in-Some.ensures.cases c.if-not-reserved_zero.ensures c.take_apart-state.ensures c.in-Ok.ensures refl

pub returns-in-Ok : goal.returns-in-Ok
returns-in-Ok c = stored _ c.in-Some.ensures.cases c.if-not-reserved_zero.ensures c.take_apart-state.ensures c.in-Ok.ensures _ refl c.lay_over.ensures

pub returns-in-Err : goal.returns-in-Err
returns-in-Err c =
    left _ c.in-Some.ensures.cases c.if-not-reserved_zero.ensures c.take_apart-state.ensures c.in-Err.ensures _ (omega arith) (search rules)

pub returns-in_default : goal.returns-in_default
returns-in_default c = refused _ _ _ _ _ _ (other_unshaped _ c.in_default.ensures.cases) refl c.no_image.ensures.number c.no_image.ensures.written

pub returns-then-not-reserved_zero : goal.returns-then-not-reserved_zero
returns-then-not-reserved_zero c =
    let w = c.in-Some.ensures.cases in
    let zero = rw w.same at (sym c.if-not-reserved_zero.ensures) in
    let none = c.no_image-then-not-reserved_zero.ensures in
    refused _ _ _ _ _ _ (whole_shaped _ w.long ∙ zero) w.same none.number none.written
