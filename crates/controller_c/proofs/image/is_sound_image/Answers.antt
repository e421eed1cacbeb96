-- `controller_c::image::is_sound_image` meets its contract: the tests are those of `sound_image`, in its order.
use Rattle.std.proofs.Common.{arith, ap, sym, ne_eqb, eq-eqb, ◌∙◌}
use Rattle.controller.specs.State.{sound}
use Rattle.controller_c.specs.Image.{shaped, sound_image}
use Rattle.controller_c.proofs.image.is_sound_image.Goals as goal

pub returns-in_default : goal.returns-in_default
unfolding sound_image shaped
returns-in_default c = rw (ne_eqb _ _ c.in_default.ensures.cases)

pub returns-then-reserved_zero : goal.returns-then-reserved_zero
unfolding sound_image shaped
returns-then-reserved_zero c =
    let w = c.in-Some.ensures.cases in
    rw (eq-eqb _ _ w.long, ← w.same, sym c.if-reserved_zero.ensures) (c.is_sound.ensures ∙ ap sound c.take_apart.ensures)

pub returns-else-reserved_zero : goal.returns-else-reserved_zero
unfolding sound_image shaped
returns-else-reserved_zero c = grind (arith, c.in-Some.ensures.cases)
