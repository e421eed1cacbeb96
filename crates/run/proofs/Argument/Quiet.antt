-- Why a decided controller is quiet: with a decided state there is no frame, and such a state refuses each tray under 2.
--     quiet    the theorem
use mathlib.Core.List.Memᴰ
use Rattle.std.specs.Prelude.{◌≡◌, length}
use Rattle.std.proofs.Common.{sym, ap, ◌∙◌, subst, eq-eqb, ne_eqb}
use Rattle.controller.specs.Laws.Calls.{sent_something}
use Rattle.controller.specs.Laws.Refusals.{decided_refused}
use Rattle.controller.specs.Laws.State.{sound_gives}
use Rattle.controller.specs.State.{View, view, undecided}
use Rattle.controller.specs.declared.state.State.{State}
use Rattle.run.proofs.Argument.Calls.{promise_nothing, makes_view, makes_size, accepted_makes, call_given, handed_rest, decided_stays}
use Rattle.run.proofs.Argument.Calls.{given_listed, returned_listed, state_sound}
use Rattle.run.specs.Quiet.{Quiet}
use Rattle.run.specs.Run.{Member, TrayCall, HandedOn, Controller, state_after}

module _ (c : Controller) where
  open c use {start, trays}

  pub quiet : Quiet c
  quiet =
      record {
        silent = λ k i d.
            let decided = ne_eqb _ _ d in
            let nothing =
            promise_nothing k.promise (λ w. ap (λ (v : View). undecided v) (sym (makes_view (accepted_makes k w))) ∙ decided) in
            let good = sound_gives k.answer.state (state_sound c k.answer.state (returned_listed c i)) in
            (record { sent = nothing.0; output = nothing.1 }, good.quiet decided);
        final = λ earlier later e d k i.
            let s = state_after start.answer.state earlier in
            let handed = handed_rest start.answer.state earlier later (subst (HandedOn start.answer.state) e c.handed) in
            let stays = decided_stays s later handed (ne_eqb _ _ d) in
            let given : k.state ≡ s = stays k.state (call_given s later handed i) in
            let listed : Member k trays = subst (Member k) (sym e) (Memᴰ.append_right earlier i) in
            let good = state_sound c k.state (given_listed c listed) in
            let decided = ap (λ (u : State). undecided (view u)) given ∙ ne_eqb _ _ d in
            record {
              refusal = k.promise.number ∙ decided_refused k.state k.tray (length k.before) good decided;
              state = stays k.answer.state (Memᴰ.tail (Memᴰ.map (λ (l : TrayCall). l.answer.state) i));
            };
        sends = λ k i w u. rw (makes_size (accepted_makes k w)) (sent_something (view k.answer.state) (eq-eqb _ _ u));
      }
