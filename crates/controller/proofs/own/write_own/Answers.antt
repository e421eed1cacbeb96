-- `controller::own::write_own` meets its contract: what is laid out are the bytes of the frame of one that is silent, which is allowed since the state is
-- sound; so it reads as its content, whose list is the own one.
use Rattle.std.proofs.Common.{List, ℕ, true, cond, ◌∙◌, ◌≡◌, ◌≤◌, refl, eqb, length, drop, ap, sym, eq-eqb, ne_eqb, take, take_at, arith}
use Rattle.controller.specs.Laws.Received.{silent_bit, stand_in_writable, stand_in_bit, stand_in_list}
use Rattle.controller.specs.Laws.State.{rules_give}
use Rattle.controller.specs.Laws.Work.Opened.{own_list}
use Rattle.controller.specs.Received.{stand_in, list_in}
use Rattle.controller.specs.State.{view, undecided, sound_rules}
use Rattle.controller.specs.Work.Received.{sent_count}
use Rattle.controller.specs.declared.state.State.{State}
use Rattle.wire.specs.Frame.{content, kind_of, frame_bytes}
use Rattle.wire.specs.Laid.{FrameLays}
use Rattle.wire.specs.Laws.Frame.{reads_written}
use Rattle.wire.specs.Laws.Laid.{lays_written, lays_inside}
use Rattle.wire.specs.Limits.{max_frame}
use Rattle.controller.proofs.own.write_own.Goals.{then-kind_of-eq-TURN, else-kind_of-eq-TURN}
use Rattle.controller.proofs.own.write_own.Goals as goal

pub shared_ref_as_front-own : goal.shared_ref_as_front-own
shared_ref_as_front-own c = omega (arith, c.sent_count.ensures, c.requires.few)

module _ (s : State) (sound : sound_rules s ≡ true) (active : undecided (view s) ≡ true) where
  reads : (given : List ℕ) → max_frame ≤ length given → (b n r : ℕ) (left : List ℕ) → b ≡ silent_bit (view s) → n ≡ sent_count s
      → FrameLays s.round b (take n s.echoes.at) given r left → list_in (content (take r left) s.round) ≡ take (sent_count s) s.echoes.at
  unfolding stand_in
  reads given room b n r left bit count lays =
      let v = view s in
      let whole = rules_give s sound in
      let c = stand_in v in
      let allowed = stand_in_writable v whole active in
      let list = stand_in_list v ∙ own_list s in
      let w =
      lays_written given r left c b (take n s.echoes.at) allowed (bit ∙ sym (stand_in_bit v whole active)) (rw count (sym list)) room lays in
      let front : take r left ≡ frame_bytes c = rw (w.0, w.1) (take_at (frame_bytes c) (drop (length (frame_bytes c)) given) (length (frame_bytes c)) refl) in
      rw front (ap list_in (reads_written c allowed) ∙ list)

pub returns : goal.returns
returns c =
    let s = c.args.state.now in
    let bit : c.if-kind_of-eq-TURN.bit ≡ cond (eqb (kind_of s.round) 5) 2 s.said = elim c.if-kind_of-eq-TURN.branch [
      | then-kind_of-eq-TURN w ↦ rw (eq-eqb _ 5 (sym c.kind_of.ensures ∙ w.if-kind_of-eq-TURN.true)) w.bit-is
      | else-kind_of-eq-TURN w ↦ rw (ne_eqb _ 5 (λ q. w.if-kind_of-eq-TURN.false (c.kind_of.ensures ∙ q))) w.bit-is
    ] in
    let lays = c.lay_frame.ensures in
    record {
      inside = omega (arith, lays_inside _ _ _ _ _ _ lays, c.lay_frame.auto.out);
      own = λ sound active. reads s sound active _ c.requires.room _ _ _ _ bit c.sent_count.ensures lays;
    }
