-- Laws of steps of the published rules: who is heard, where the lists lie.
-- Serves document 01's "The run of demand 3". What is said of a reception holds of any tray that keeps the guarantee, not only of the one that was worked.
use Rattle.std.specs.Prelude.{ℕ, zero, suc, ◌<◌, ◌≤◌, Bool, false, cond, [], ◌≡◌, refl, ltb, length}
use Rattle.std.proofs.Math.Bool.{true}
use mathlib.Core.List.Memᴰ
use Rattle.std.proofs.Math.Logic.{inl, inr}
use Rattle.std.specs.Prelude.{Some}
use Rattle.std.proofs.Common.{sym, subst, arith, length-append}
use Rattle.std.proofs.Math.Decide.{le_ind}
use Rattle.controller.specs.Bytes.{kind_of, max_count}
use Rattle.controller.specs.Lists.{In, Inside, Rising}
use Rattle.controller.specs.State.{View, undecided}
use Rattle.controller.specs.Received.{Received, frame_of, list_in, lists}
use Rattle.controller.specs.Thirds.{third}
use Rattle.controller.specs.Rotation.{tally}
use Rattle.controller.specs.Rules.{step}
use Rattle.controller.specs.Laws.Lists.{true_or_false, inside_length, rising_no_repeats, count_short}
use Rattle.controller.specs.Laws.Thirds.{third_is, two_thirds_is}
use Rattle.controller.specs.Laws.Received.{frame_list, stand_in_list}
use Rattle.controller.specs.Laws.Rotation.{roster_in, roster_rising, echoed_in, echoed_rising, candidates_in_lem, candidates_rising}
use Rattle.controller.specs.Laws.Rules.{step_any, step_heard}
use Rattle.run.proofs.Argument.Counting.{Few, Heard}
use Rattle.run.proofs.Argument.CountingLaws.{two_thirds_then_third, third_inside}
use Rattle.run.proofs.Argument.Steps.{Steps, all, Reception, Timely, AtWork, StepRules}

module _ (S : Steps) where
  open S use {correct, faulty, state, received}

  -- ---- rounds whose trays keep the guarantee, one after the other

  pub timely_holds : (P : ℕ → Type 0) → P 1 → ((t : ℕ) → Timely S t → P t → P (suc t)) → (t : ℕ) → Timely S t → P t
  timely_holds P start next zero h = absurd (omega (arith, h.first))
  timely_holds P start next (suc zero) h = start
  timely_holds P start next (suc (suc t)) h =
      let earlier : Timely S (suc t) = record { first = omega arith; last = omega (arith, h.last) } in
      next (suc t) earlier (timely_holds P start next (suc t) earlier)

  -- somebody, oneself, is always heard
  pub somebody_heard : {p t : ℕ} {r : Received} → In p correct → Reception S p t r → 0 < length r.heard
  somebody_heard {p} i got = omega (arith, count_short (λ y. false) p (got.present p i) refl)

  module _ (K : StepRules S) where
    open K use {differ, few, begins, sound, receives, follows, rests}

    -- document 01's 3f < n
    pub few_faulty : Few (length faulty) (length correct)
    few_faulty = omega (arith, few, length-append correct faulty)

    -- ---- who is heard

    heard_after_inside : {p t : ℕ} {r : Received} → Inside (state p t).rotor.heard (all S) → Reception S p t r → Inside r.heard (all S)
    heard_after_inside before got x i = elim (got.others x i) [ inl j ↦ before x j | inr j ↦ j ]

    -- what each step keeps is kept from round to round: who has decided stays as it is
    kept_next : (P : View → Type 0) {p t : ℕ} → In p correct → Timely S t → P (state p t)
        → (AtWork S p t → P (step (state p t) (received p t))) → P (state p (suc t))
    kept_next P {p} {t} i h before works = elim (true_or_false (undecided (state p t))) [
      | inl u ↦ let w : AtWork S p t = record { member = i; timely = h; active = u } in subst P (sym (follows p t w)) (works w)
      | inr d ↦ subst P (sym (rests p t i h d)) before
    ]

    heard_inside : {p : ℕ} → In p correct → (t : ℕ) → Timely S t → Inside (state p t).rotor.heard (all S)
    heard_inside {p} i = timely_holds (λ t. Inside (state p t).rotor.heard (all S))
        (rw (begins p i) (λ x j. Memᴰ.cast (Memᴰ.eq_of_singleton j) (Memᴰ.append_left faulty i)))
        (λ t h before. kept_next (λ v. Inside v.rotor.heard (all S)) i h before
        (λ w. rw (step_heard (state p t) (received p t)) (heard_after_inside before (receives p t w))))

    pub heard_reception : {p t : ℕ} {r : Received} → In p correct → Timely S t → Reception S p t r → Heard correct faulty r.heard
    heard_reception {p} {t} {r} i h got = record {
      once = rising_no_repeats r.heard got.rises;
      whole = got.present;
      within = heard_after_inside (heard_inside i t h) got;
    }

    -- ---- where the lists lie

    abbrev ListsInside : View → Type 0
    ListsInside v = Inside v.rotor.candidates (all S) × Inside v.rotor.echoes (all S)

    -- a frame's list, and that of what stands in for one that is silent, which is the same
    sent_inside : (v : View) → Inside v.rotor.echoes (all S) → Inside (list_in (Some (frame_of v))) (all S)
    sent_inside v inside = rw (frame_list v) (pick (ltb 0 (max_count (kind_of v.round))))
      where
        pick : (b : Bool) → Inside (cond b v.rotor.echoes []) (all S)
        pick true = inside
        pick false = λ x i. absurd (Memᴰ.not-nil i)

    -- what reaches a third is in some correct one's list, and those lie inside
    step_lists_inside : {p t : ℕ} {r : Received} → In p correct → Timely S t → ((q : ℕ) → In q correct → ListsInside (state q t)) → Reception S p t r
        → ListsInside (step (state p t) r)
    unfolding tally
    step_lists_inside {p} {t} {r} i h before got =
        let v = state p t in
        let l = lists r in
        let some-heard = somebody_heard i got in
        let heard = heard_reception i h got in
        let sent : (s : ℕ) → In s correct → Inside (list_in (r.from s)) (all S) =
        λ s j. elim (true_or_false (undecided (state s t))) [
          | inl u ↦ rw (got.frames s j u) (sent_inside (state s t) (before s j).1)
          | inr d ↦ rw (got.quiet s j d, stand_in_list v) (sent_inside v (before p i).1)
        ] in
        let reached : (x : ℕ) → third (tally l x) (length r.heard) ≡ true → In x (all S) =
        λ x reach. third_inside differ few_faulty (λ s. list_in (r.from s)) heard sent x ((third_is _ _).0 reach) in
        step_any ListsInside v r
        ((before p i).0, λ x j. heard.within x ((roster_in r).0 j).0) (
          λ x j. elim ((candidates_in_lem v.rotor l some-heard).0 j) [
            | inl old ↦ (before p i).0 x old
            | inr two ↦ reached x ((third_is _ _).1 (two_thirds_then_third _ _ ((two_thirds_is _ _).0 two)))
          ],
          λ x j. reached x ((echoed_in v.rotor l some-heard).0 j).0,
        )
        (before p i)
        (before p i)

    lists_inside : (t : ℕ) → Timely S t → (p : ℕ) → In p correct → ListsInside (state p t)
    lists_inside = timely_holds (λ t. (p : ℕ) → In p correct → ListsInside (state p t))
        (λ p i. rw (begins p i) (λ x j. absurd (Memᴰ.not-nil j), λ x j. absurd (Memᴰ.not-nil j)))
        (λ t h before p i. kept_next ListsInside i h (before p i) (λ w. step_lists_inside i h before (receives p t w)))

    -- a candidate stays one
    pub candidate_stays : {p s x : ℕ} → In p correct → 1 ≤ s → (t : ℕ) → s ≤ t → Timely S t → In x (state p s).rotor.candidates
        → In x (state p t).rotor.candidates
    candidate_stays {p} {s} {x} i first t l h c =
        le_ind (λ t. Timely S t → In x (state p t).rotor.candidates) (λ h. c)
        (λ t l before h.
        let now : Timely S t = record { first = omega arith; last = omega (arith, h.last) } in
        let old = before now in
        kept_next (λ v. In x v.rotor.candidates) i now old
        (λ w. step_any (λ v. In x v.rotor.candidates) (state p t) (received p t)
        old ((candidates_in_lem _ (lists (received p t)) (somebody_heard i (receives p t w))).1 (inl old)) old old)) t l h

    step_lists_rise : {p t : ℕ} {r : Received} → AtWork S p t → Reception S p t r
        → Rising (step (state p t) r).rotor.candidates × Rising (step (state p t) r).rotor.echoes
    step_lists_rise {p} {t} {r} w got =
        let v = state p t in
        let good = sound p t w in
        let kept : Rising v.rotor.candidates × Rising v.rotor.echoes = (good.candidates.rises, good.echoes.rises) in
        step_any (λ w. Rising w.rotor.candidates × Rising w.rotor.echoes) v r
        (kept.0, roster_rising r got.rises)
        (candidates_rising v.rotor (lists r) kept.0, echoed_rising v.rotor (lists r))
        kept
        kept

    -- so no list that is sent has more than n
    pub echoes_short : (p t : ℕ) → AtWork S p t → length (state p t).rotor.echoes ≤ length (all S)
    echoes_short p t w =
        let echoes = (state p t).rotor.echoes in
        inside_length echoes (rising_no_repeats echoes (sound p t w).echoes.rises) (lists_inside t w.timely p w.member).1

    -- no list outgrows the numbers: so no tray that keeps the guarantee is refused under 7 or 8
    pub reception_fits : (p t : ℕ) → AtWork S p t → (r : Received) → Reception S p t r
        → (length r.heard ≤ length (all S))
        × (length (step (state p t) r).rotor.candidates ≤ length (all S))
        × (length (step (state p t) r).rotor.echoes ≤ length (all S))
    reception_fits p t w r got =
        let heard = heard_reception w.member w.timely got in
        let made = (step (state p t) r).rotor in
        let inside = step_lists_inside w.member w.timely (lists_inside t w.timely) got in
        let rise = step_lists_rise w got in (
          inside_length r.heard heard.once heard.within,
          inside_length made.candidates (rising_no_repeats made.candidates rise.0) inside.0,
          inside_length made.echoes (rising_no_repeats made.echoes rise.1) inside.1,
        )
