-- Laws of what is sent with a state: a frame by one that has not decided, else nothing.
use Rattle.std.specs.Prelude.{◌+◌, ◌*◌, ◌<◌, true, false, cond, [], ◌≡◌, ltb, length}
use Rattle.std.proofs.Common.{inl, inr, ap, arith}
use Rattle.wire.specs.Frame.{kind_of, max_count}
use Rattle.wire.specs.Laws.Frame.{frame_length}
use Rattle.wire.specs.Limits.{frame_header, number_width}
use Rattle.controller.specs.Calls.{sent_bytes}
use Rattle.controller.specs.Laws.Lists.{true_or_false}
use Rattle.controller.specs.Received.{frame_of}
use Rattle.controller.specs.State.{View, undecided}

module _ (v : View) where
  pub sent_nothing : undecided v ≡ false → sent_bytes v ≡ []
  sent_nothing d = rw d

  -- a header, and behind it the list of a roster or a turn
  pub sent_length : undecided v ≡ true
      → length (sent_bytes v) ≡ frame_header + number_width * length (cond (ltb 0 (max_count (kind_of v.round))) v.rotor.echoes [])
  unfolding frame_of
  sent_length u = rw u (frame_length (frame_of v))

  pub sent_something : undecided v ≡ true → 0 < length (sent_bytes v)
  sent_something u = omega (arith, sent_length u)

  pub sender_undecided : 0 < length (sent_bytes v) → undecided v ≡ true
  sender_undecided h = elim (true_or_false (undecided v)) [ inl u ↦ u | inr d ↦ absurd (omega (arith, ap length (sent_nothing d))) ]
