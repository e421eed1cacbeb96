-- `controller::calls::work_checked` meets its contract: the step is that of the state which has heard all senders, and that is the step of the state before;
-- where it is not taken, a sender that does not fit gives 6, too many heard give 7, and lists that do not fit give 8.
use Rattle.std.specs.Prelude.{ℕ, ◌≤◌, Bool, true, false, cond, ◌&&◌, List, ◌≡◌, refl, is_some}
use Rattle.std.proofs.Common.{◌∙◌, sym, ap}
use Rattle.controller.specs.First.{rounds_after}
use Rattle.controller.specs.Laws.First.{next_stays_sound}
use Rattle.controller.specs.Laws.Refusals.{tray_accepted}
use Rattle.controller.specs.Laws.State.{view_stored, rules_heard, sound_rules_lem}
use Rattle.controller.specs.Rules.{next}
use Rattle.controller.specs.State.{view, bit_part, state_from, stored_state, sound_rules}
use Rattle.controller.specs.Refusals.{tray_refusal}
use Rattle.controller.specs.Work.Calls.{Checked, Sends, SendsState}
use Rattle.controller.specs.Work.First.{moved_to, Grown}
use Rattle.controller.specs.Work.Received.{Hears}
use Rattle.controller.specs.Work.Step.{Makes}
use Rattle.controller.specs.declared.state.State.{State}
use Rattle.controller.specs.declared.state.Refusal.TheVariants.{BadSender, TooManyHeard, TooManyListed}
use Rattle.wire.specs.Limits.{max_numbers}
use Rattle.wire.specs.Numbers.{listed}
use Rattle.wire.specs.Tray.{entries}
use Rattle.wire.specs.declared.frame.Numbers.{Numbers}
use Rattle.controller.proofs.Heard.{heard_state, hearing_fits, hearing_ready, hearing_grown, hearing_recorded, made_refusal, made_state, made_heard}
use Rattle.controller.proofs.Promises.{promise_left, promise_sent, tests_left}
use Rattle.controller.proofs.calls.work_checked.Goals as goal

-- of two tests that do not both hold, the second fails where the first holds
second_fails : (t u : Bool) → (t && u) ≡ false → t ≡ true → u ≡ false
second_fails t u both first = rw first at both

-- a state with the places p for its record
abbrev with_record : List ℕ → State → State
with_record p s = state_from s.own s.round (bit_part s) s.king s.heard s.candidates s.echoes p

-- what the step makes of the state that has heard the senders: t, where m says whether its lists fit
module _ {s : State} {b f : List ℕ} {n : ℕ} {all : Numbers} {m : Bool} {t : State} (k : Checked s b n)
    {fits : Bool} (hears : Hears s.own b (listed s.heard) fits all f) (some : fits ≡ true)
    (makes : Makes (heard_state s all) b m t)
  where
    heard : Hears s.own b (listed s.heard) true all f
    heard = rw some at hears

    refusal : tray_refusal s b n ≡ cond m 0 8
    refusal = made_refusal k heard refl makes

    -- where they do not, the list of those heard before gives the state before
    kept : m ≡ false → heard_state t s.heard ≡ s
    kept q = ap (λ (u : State). heard_state u s.heard) (makes.kept q)

    module _ (taken : m ≡ true) where
      passed : tray_refusal s b n ≡ 0
      passed = refusal ∙ rw taken

      made : t ≡ stored_state (next (view s) (entries b)) s.since
      made = made_state k heard refl makes taken

      listed_heard : t.heard ≡ all
      listed_heard = made_heard k heard refl makes taken

      grown : Grown s.heard t.heard
      grown = rw listed_heard (hearing_grown k heard refl)

      few_echoes : t.echoes.len ≤ max_numbers
      few_echoes = rw made (tray_accepted s b n passed).0.echoes

      -- with the places p for the record, which is moved
      module _ {p : List ℕ} (moved : p ≡ moved_to (listed s.heard) (listed t.heard) s.round t.since) where
        recorded : p ≡ rounds_after s (entries b)
        recorded =
            hearing_recorded k heard refl
            (moved ∙ (λ i. moved_to (listed s.heard) (listed (listed_heard i)) s.round (made i).since))

        whole : with_record p t ≡ stored_state (next (view s) (entries b)) (rounds_after s (entries b))
        whole = ap (with_record p) made ∙ ap (stored_state (next (view s) (entries b))) recorded

        sent : {given left : List ℕ} {l : ℕ} → SendsState (with_record p t) given l left → Sends (next (view s) (entries b)) given l left
        sent sends =
            let shown = ap view whole ∙ view_stored _ (rounds_after s (entries b)) in
            rw shown at (sends (ap sound_rules whole ∙ sound_rules_lem _ (next_stays_sound s b (tray_accepted s b n passed).0)))

pub hear-requires-clause-sound : goal.hear-requires-clause-sound
hear-requires-clause-sound c = rules_heard _ (sound_rules_lem _ c.requires.sound)

pub step-requires-clause-ready : goal.step-requires-clause-ready
step-requires-clause-ready c =
    let some : is_some c.hear.result ≡ true = c.is_none.ensures ∙ rw c.if-is_none.false in
    hearing_ready c.requires (rw some at c.hear.ensures) refl

pub take_over-requires : goal.take_over-requires
take_over-requires c =
    let some = c.is_none.ensures ∙ rw c.if-is_none.false in
    grown c.requires c.hear.ensures some c.step.ensures (c.is_none-2.ensures ∙ rw c.if-is_none-2.false)

pub send-requires-clause-few : goal.send-requires-clause-few
send-requires-clause-few c =
    let some = c.is_none.ensures ∙ rw c.if-is_none.false in
    few_echoes c.requires c.hear.ensures some c.step.ensures (c.is_none-2.ensures ∙ rw c.if-is_none-2.false)

pub returns : goal.returns
returns c =
    let some = c.is_none.ensures ∙ rw c.if-is_none.false in
    let taken = c.is_none-2.ensures ∙ rw c.if-is_none-2.false in
    promise_sent _ _ _ (passed c.requires c.hear.ensures some c.step.ensures taken)
    (whole c.requires c.hear.ensures some c.step.ensures taken c.take_over.ensures)
    (sent c.requires c.hear.ensures some c.step.ensures taken c.take_over.ensures c.send.ensures)

pub returns-then-is_none-2 : goal.returns-then-is_none-2
returns-then-is_none-2 c =
    let some = c.is_none.ensures ∙ rw c.if-is_none.false in
    let left : is_some c.step.result ≡ false = c.is_none-2.ensures ∙ rw c.if-is_none-2.true in
    promise_left TooManyListed _ (refusal c.requires c.hear.ensures some c.step.ensures ∙ rw left)
    (kept c.requires c.hear.ensures some c.step.ensures left)

pub returns-then-senders_fit : goal.returns-then-senders_fit
returns-then-senders_fit c =
    let none : is_some c.hear.result ≡ false = c.is_none.ensures ∙ rw c.if-is_none.true in
    let sent = sym c.senders_fit.ensures ∙ c.if-senders_fit.true in
    let both = sym (hearing_fits c.requires (rw none at c.hear.ensures)) in
    promise_left TooManyHeard _ (tests_left c.requires ∙ rw (sent, second_fails _ _ both sent)) refl

pub returns-else-senders_fit : goal.returns-else-senders_fit
returns-else-senders_fit c = promise_left BadSender _ (tests_left c.requires ∙ rw (sym c.senders_fit.ensures ∙ c.if-senders_fit.false)) refl
