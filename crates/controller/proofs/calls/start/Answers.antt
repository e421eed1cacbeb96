-- `controller::calls::start` meets its contract: each test that fails gives `start_refusal` its number; where none does the first state
-- is sound and its frame is sent.
use Rattle.std.specs.Prelude.{ℕ, ◌≤◌, ◌<◌, ◌⊎◌, Err, ◌≢◌, ◌≡◌}
use Rattle.std.proofs.Common.{inl, inr, ◌∙◌, ap, le-leb, eq-eqb, ne_eqb}
use Rattle.std.proofs.lemmas.Bool.{lt-leb}
use Rattle.controller.specs.Calls.{answer_of}
use Rattle.controller.specs.Laws.State.{view_stored, start_sound, rules_test}
use Rattle.controller.specs.Refusals.{start_refusal}
use Rattle.controller.specs.State.{view, sound_rules, start_view, start_rounds}
use Rattle.controller.specs.declared.state.Refusal.TheVariants.{NoRoom, BadStart}
use Rattle.wire.specs.Limits.{max_frame}
use Rattle.controller.proofs.Promises.{promise_refused, promise_sent}
use Rattle.controller.proofs.calls.start.Goals as goal

-- the refusal of a start, by its tests in their order
module _ (number bit n : ℕ) where
  wrong : (number ≡ 0) ⊎ ((number ≢ 0) × (1 < bit)) → start_refusal number bit n ≡ 9
  unfolding start_refusal
  wrong (inl e) = rw (eq-eqb number 0 e)
  wrong (inr l) = rw (ne_eqb number 0 l.0, lt-leb bit 1 l.1)

  tight : number ≢ 0 → bit ≤ 1 → n < max_frame → start_refusal number bit n ≡ 3
  unfolding start_refusal
  tight z l r = rw (ne_eqb number 0 z, le-leb bit 1 l, lt-leb max_frame n r)

  fits : number ≢ 0 → bit ≤ 1 → max_frame ≤ n → start_refusal number bit n ≡ 0
  unfolding start_refusal
  fits z l r = rw (ne_eqb number 0 z, le-leb bit 1 l, le-leb max_frame n r)

pub returns-then-number-eq0 : goal.returns-then-number-eq0
returns-then-number-eq0 c =
    promise_refused BadStart _ (wrong c.args.number c.args.bit _ c.then-number-eq0.either)
    (c.refused.ensures ∙ ap (answer_of (Err BadStart)) c.zero_state.ensures)

pub returns-then-out-lt-MAX_FRAME : goal.returns-then-out-lt-MAX_FRAME
returns-then-out-lt-MAX_FRAME c =
    promise_refused NoRoom _ (tight _ _ _ c.if-number-eq0.false c.if-bit-gt1.false c.if-out-lt-MAX_FRAME.true)
    (c.refused-then-out-lt-MAX_FRAME.ensures ∙ ap (answer_of (Err NoRoom)) c.zero_state-then-out-lt-MAX_FRAME.ensures)

pub returns : goal.returns
returns c =
    let first = c.first_state-state.ensures in
    let sound = ap sound_rules first ∙ rules_test _ start_rounds (start_sound c.args.number c.args.bit c.if-number-eq0.false c.if-bit-gt1.false) in
    let shown = ap view first ∙ view_stored (start_view c.args.number c.args.bit) start_rounds in
    promise_sent _ _ _ (fits _ _ _ c.if-number-eq0.false c.if-bit-gt1.false c.if-out-lt-MAX_FRAME.false) first (rw shown at (c.send-length.ensures sound))
