-- A state that has heard a tray's senders: it is sound, and it takes the step that the state before takes.
--     heard_state s n     the state s with the list n of those heard
use Rattle.std.specs.Prelude.{Bool, true, cond}
use Rattle.std.proofs.Math.Bool.{◌&&◌, and-eq-true_iff}
use Rattle.std.proofs.Common.{inl, inr, sym, ap, leb-true, ℕ, ◌≤◌, ◌<◌, List}
use Rattle.std.proofs.Math.Path.{◌≡◌, subst, ◌∙◌}
use Rattle.std.proofs.Math.ListN.{length, get_or}
use Rattle.wire.specs.Found.{found}
use Rattle.wire.specs.Notes.{found_by}
use Rattle.wire.specs.Limits.{max_numbers}
use Rattle.wire.specs.Laws.Numbers.{listed_stored}
use Rattle.wire.specs.Numbers.{stored, listed}
use Rattle.wire.specs.Tray.{Entry, entries}
use Rattle.wire.specs.declared.frame.Numbers.{Numbers}
use Rattle.controller.specs.Laws.Received.{heard_in_lem}
use Rattle.controller.specs.Laws.Refusals.{senders_fit_lem}
use Rattle.controller.specs.Laws.Rules.{with_heard, heard_sound, next_already_heard, step_heard}
use Rattle.controller.specs.Laws.State.{Sound, rules_give, rules_heard, rules_stored, rules_test, sound_rules_lem, view_stored}
use Rattle.controller.specs.First.{rounds_after}
use Rattle.controller.specs.Laws.Work.Moved.{moved_recorded}
use Rattle.controller.specs.Laws.Work.Step.{ready_found}
use Rattle.controller.specs.Lists.{In}
use Rattle.controller.specs.Received.{senders, receive}
use Rattle.controller.specs.Refusals.{tray_refusal, senders_fit, heard_fit, lists_fit}
use Rattle.controller.specs.Rules.{next}
use Rattle.controller.specs.State.{view, stored_state, sound_rules, bit_part, state_from}
use Rattle.controller.specs.Work.First.{moved_to, Grown}
use Rattle.controller.specs.Work.Received.{Hears, Ready}
use Rattle.controller.specs.Work.Calls.{Checked}
use Rattle.controller.specs.Work.Step.{Makes}
use Rattle.controller.specs.declared.state.State.{State}
use Rattle.controller.proofs.Promises.{tests_left}

abbrev pub heard_state : State → Numbers → State
heard_state s n = state_from s.own s.round (bit_part s) s.king n s.candidates s.echoes s.since

module _ (s : State) (es : List Entry) (n : Numbers) (h : sound_rules s ≡ true) (e : n ≡ stored (receive (view s) es).heard) where
  more_image : heard_state s n ≡ stored_state (with_heard (view s) es) s.since
  more_image =
      let back = sym (rules_stored s h) in
      λ i. state_from s.own s.round (bit_part s) s.king (e i) (back i).candidates (back i).echoes s.since

  more_view : view (heard_state s n) ≡ with_heard (view s) es
  more_view = ap view more_image ∙ view_stored _ s.since

  pub more_next : next (view (heard_state s n)) es ≡ next (view s) es
  more_next = ap (λ v. next v es) more_view ∙ next_already_heard (view s) es (rules_give s h).heard.rises

  pub more_sound : (¬ In 0 (senders es)) → length (receive (view s) es).heard ≤ max_numbers → sound_rules (heard_state s n) ≡ true
  more_sound z short =
      let v = rules_give s h in
      let all : Sound (with_heard (view s) es) =
      record {
        early = v.early;
        late = v.late;
        numbered = v.numbered;
        hears_itself = (heard_in_lem (view s) es).1 (inr v.hears_itself);
        heard = heard_sound (view s) es v z short;
        candidates = v.candidates;
        echoes = v.echoes;
        said = v.said;
        said_value = v.said_value;
        quiet = v.quiet;
        no_candidates = v.no_candidates;
        no_echoes = v.no_echoes;
        bit = v.bit;
        strong = v.strong;
        decision = v.decision;
      } in
      ap sound_rules more_image ∙ rules_test _ s.since all

-- what `hear` answers, in the rules' words
module _ {s : State} {b : List ℕ} {n : ℕ} (k : Checked s b n) {r : Bool} {all : Numbers} {f : List ℕ}
    (heard : Hears s.own b (listed s.heard) r all f) where
  pub hearing_fits : r ≡ (senders_fit (view s) (entries b) && heard_fit (view s) (entries b))
  unfolding receive
  hearing_fits = heard.fits

  -- where it fits, one that has heard the senders is ready
  module _ (fit : r ≡ true) where
    list : all ≡ stored (receive (view s) (entries b)).heard
    unfolding receive
    list = heard.list fit

    sent : senders_fit (view s) (entries b) ≡ true
    sent = ((and-eq-true_iff (senders_fit (view s) (entries b)) (heard_fit (view s) (entries b))).0 (sym hearing_fits ∙ fit)).0

    fits : heard_fit (view s) (entries b) ≡ true
    fits = ((and-eq-true_iff (senders_fit (view s) (entries b)) (heard_fit (view s) (entries b))).0 (sym hearing_fits ∙ fit)).1

    hearing_sound : sound_rules (heard_state s all) ≡ true
    hearing_sound = more_sound s (entries b) all (sound_rules_lem s k.sound) list (senders_fit_lem (view s) (entries b) sent).0 (leb-true _ _ fits)

    same : (receive (view s) (entries b)).heard ≡ listed all
    same = sym (ap listed list ∙ listed_stored _)

    pub hearing_ready : Ready (heard_state s all) b f
    unfolding receive
    hearing_ready =
        ready_found (heard_state s all) b f hearing_sound k.active k.packed
        (λ x i. subst (In x) same ((heard_in_lem (view s) (entries b)).1 (inl i)))
        (senders_fit_lem (view s) (entries b) sent).1
        (subst (λ (l : List ℕ). (j : ℕ) → j < length l → found_by (get_or f j 0) ≡ found b (get_or l j 0)) same (heard.notes fit))

    -- those heard before are among them, and the record that is moved to beside them is the one that the tray gives
    pub hearing_grown : Grown s.heard all
    hearing_grown =
        record {
          fewer = rules_heard s (sound_rules_lem s k.sound);
          more = rules_heard (heard_state s all) hearing_sound;
          inside = λ x i. subst (In x) same ((heard_in_lem (view s) (entries b)).1 (inr i));
        }

    pub hearing_recorded : {w : List ℕ} → w ≡ moved_to (listed s.heard) (listed all) s.round s.since → w ≡ rounds_after s (entries b)
    hearing_recorded e =
        e ∙ ap (λ (m : List ℕ). moved_to (listed s.heard) m s.round s.since) (sym same)
        ∙ moved_recorded s (entries b) k.sound

    pub hearing_passed : tray_refusal s b n ≡ cond (lists_fit (view s) (entries b)) 0 8
    hearing_passed = tests_left k ∙ rw (sent, fits)

    -- the step that it takes is the tray's: of the state t that this makes, m saying whether its lists fit
    module _ {m : Bool} {t : State} (makes : Makes (heard_state s all) b m t) where
      same_next : next (view (heard_state s all)) (entries b) ≡ next (view s) (entries b)
      same_next = more_next s (entries b) all (sound_rules_lem s k.sound) list

      pub made_refusal : tray_refusal s b n ≡ cond m 0 8
      made_refusal = hearing_passed ∙ ap (λ (u : Bool). cond u 0 8) (sym (rw same_next at makes.fits))

      pub made_state : m ≡ true → t ≡ stored_state (next (view s) (entries b)) s.since
      made_state q = rw same_next at (makes.made q)

      pub made_heard : m ≡ true → t.heard ≡ all
      made_heard q = ap (λ (u : State). u.heard) (made_state q) ∙ ap stored (step_heard (view s) (receive (view s) (entries b))) ∙ sym list
