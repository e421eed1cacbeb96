-- `wire::read::check_frame` meets its contract: each test that is made gives the next part of `read_refusal` its value. Past the first the bytes have a
-- header, and past the second its kind is the round's.
use Rattle.std.proofs.Common.{arith, rules, sym, ◌∙◌}
use Rattle.wire.specs.Frame.{read_refusal}
use Rattle.wire.specs.Laws.Frame.{length_fits_lem, head_gives}
use Rattle.wire.proofs.read.check_frame.Goals as goal

pub head_fits-requires : goal.head_fits-requires
head_fits-requires c = omega (arith, length_fits_lem _ (sym c.length_fits.ensures ∙ c.if-not-length_fits.false))

pub bounds-bytes-4 : goal.bounds-bytes-4
bounds-bytes-4 c = omega (arith, length_fits_lem _ (sym c.length_fits.ensures ∙ c.if-not-length_fits.false))

pub body_fits-requires : goal.body_fits-requires
body_fits-requires c = length_fits_lem _ (sym c.length_fits.ensures ∙ c.if-not-length_fits.false)

pub returns-then-not-length_fits : goal.returns-then-not-length_fits
unfolding read_refusal
returns-then-not-length_fits c = search rules

pub returns-then-not-head_fits : goal.returns-then-not-head_fits
unfolding read_refusal
returns-then-not-head_fits c = search rules

pub returns-then-not-body_fits : goal.returns-then-not-body_fits
unfolding read_refusal
returns-then-not-body_fits c = rw (← (head_gives _ _ (sym c.head_fits.ensures ∙ c.if-not-head_fits.false)).kind) (search rules)

pub returns-else-not-body_fits : goal.returns-else-not-body_fits
unfolding read_refusal
returns-else-not-body_fits c = rw (← (head_gives _ _ (sym c.head_fits.ensures ∙ c.if-not-head_fits.false)).kind) (search rules)
