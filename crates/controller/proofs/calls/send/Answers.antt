-- `controller::calls::send` meets its contract: a decided state sends nothing; else what is laid out are the bytes of the state's own frame, which is allowed
-- since the state is sound.
use Rattle.std.specs.Prelude.{ℕ, ◌≤◌, true, List, ◌≡◌, eqb, length, take}
use Rattle.std.proofs.Common.{sym, ◌∙◌, ap, eq-eqb, ne_eqb}
use Rattle.controller.specs.Laws.Received.{frame_writable, frame_bit}
use Rattle.controller.specs.Laws.State.{rules_give}
use Rattle.controller.specs.Laws.Work.Opened.{own_list}
use Rattle.controller.specs.Received.{frame_of}
use Rattle.controller.specs.State.{view}
use Rattle.controller.specs.Work.Calls.{SendsState}
use Rattle.controller.specs.Work.Received.{sent_count}
use Rattle.controller.specs.declared.state.State.{State}
use Rattle.wire.specs.Laid.{FrameLays}
use Rattle.wire.specs.Laws.Laid.{lays_written}
use Rattle.wire.specs.Limits.{max_frame}
use Rattle.controller.proofs.calls.send.Goals as goal

lays : (s : State) (given : List ℕ) (n r : ℕ) (left : List ℕ) → eqb s.decision 2 ≡ true → max_frame ≤ length given → n ≡ sent_count s
    → FrameLays s.round s.said (take n s.echoes.at) given r left → SendsState s given r left
unfolding frame_of
lays s given n r left active room count laid sound =
    let v = view s in
    let whole = rules_give s sound in
    let numbers = ap (λ (m : ℕ). take m s.echoes.at) count ∙ sym (own_list s) in
    let w = lays_written given r left (frame_of v) s.said _ (frame_writable v whole active) (sym (frame_bit v whole active)) numbers room laid in
    record { written = rw active w.0; output = rw active w.1 }

pub returns-then-state-ne-NO_BIT : goal.returns-then-state-ne-NO_BIT
returns-then-state-ne-NO_BIT c sound =
    let decided = ne_eqb _ _ c.if-state-ne-NO_BIT.true in
    record { written = rw decided; output = rw decided }

pub returns : goal.returns
returns c =
    lays _ _ _ _ _ (eq-eqb _ _ c.if-state-ne-NO_BIT.false) c.requires.room c.sent_count.ensures c.lay_frame.ensures
