-- Laws of damaged frames: demand 1's last sentence, a damaged frame never gets a well packed tray refused.
use Rattle.std.specs.Prelude.{ℕ, ◌<◌, ◌≤◌, Bool, true, false, cond, List, [], ◌∷◌, ◌++◌, ◌⊎◌, ◌≢◌, ◌≡◌, eqb, length}
use Rattle.std.proofs.Common.{true≢false, inl, inr, sym, ap, ◌∙◌, subst, le_refl, le_trans, arith}
use Rattle.std.proofs.Math.Bool.{and-false}
use Rattle.std.specs.Prelude.{Option, Some, None}
use Rattle.std.proofs.Math.Path.{refl}
use Rattle.std.proofs.Math.Seq.{map-set_same}
use Rattle.wire.specs.Frame.{Content, content}
use Rattle.wire.specs.Refusal.{first_failed}
use Rattle.wire.specs.Found.{one, several, under}
use Rattle.wire.specs.Tray.{Entry, well_formed, round_of, entry_count, length_of, sender, entries, overwritten}
use Rattle.wire.specs.Laws.Tray.{entry_at_lem}
use Rattle.wire.specs.Laws.Damage.{overwritten_packed, overwritten_round, overwritten_entries, overwritten_under}
use Rattle.controller.specs.Lists.{Rising, mem}
use Rattle.controller.specs.Thirds.{third, two_thirds}
use Rattle.controller.specs.State.{View, Rotor, view, sound}
use Rattle.controller.specs.Received.{Received, frame_of, stand_in, senders, read_in, silent, receive, says, list_in, lists}
use Rattle.controller.specs.Rotation.{roster, tally, echoed, candidates_after}
use Rattle.controller.specs.Rules.{step}
use Rattle.controller.specs.Refusals.{lists_fit, tray_refusal}
use Rattle.controller.specs.Laws.Lists.{count_inside, inside_length, rising_no_repeats}
use Rattle.controller.specs.Laws.Thirds.{third_is, two_thirds_is}
use Rattle.controller.specs.Laws.State.{Sound, sound_gives}
use Rattle.controller.specs.Laws.Received.{heard_rising, heard_some}
use Rattle.controller.specs.Laws.Rotation.{roster_in, roster_rising, echoed_in, echoed_rising, candidates_in_lem, candidates_rising}
use Rattle.controller.specs.Laws.Rules.{makes_roster, makes_value, makes_propose, makes_turn, making, step_roster, step_value, step_propose, step_turn}
use Rattle.controller.specs.Laws.Refusals.{test_passed, earlier_tests, tray_refusal_is, lists_fit_lem}
use Rattle.controller.specs.declared.state.State.{State}

-- ---- the last of a chain of tests

-- where only the last test differs, and t passes only if t' does, what t' refuses t refuses alike
test_last : (ts : List (Bool × ℕ)) (t t' : Bool) (k : ℕ) → (first_failed ts ≡ 0 → t ≡ true → t' ≡ true)
    → first_failed (ts ++ ((t', k) ∷ [])) ≢ 0 → first_failed (ts ++ ((t, k) ∷ [])) ≡ first_failed (ts ++ ((t', k) ∷ []))
test_last [] true true k passes r = refl
test_last [] true false k passes r = absurd (true≢false (sym (passes refl refl)))
test_last [] false true k passes r = absurd (r refl)
test_last [] false false k passes r = refl
test_last ((true, j) ∷ ts) t t' k passes r = test_last ts t t' k passes r
test_last ((false, j) ∷ ts) t t' k passes r = refl

-- ---- fewer frames

-- as r, but some frames are not had: no list grows
module _ (v : View) (h : Sound v) (r r' : Received) (same : r'.heard ≡ r.heard) (frames : (x : ℕ) → (r'.from x ≡ r.from x) ⊎ (r'.from x ≡ None))
    (up : Rising r.heard) (some : 0 < length r.heard) where
  abbrev c : Rotor
  c = v.rotor

  still_says : (P : Option Content → Bool) → P None ≡ false → (x : ℕ) → P (r'.from x) ≡ true → P (r.from x) ≡ true
  still_says P void x t = elim (frames x) [
    | inl e ↦ rw e at t
    | inr e ↦ absurd (true≢false (sym (rw e at t) ∙ void))
  ]

  tally_fewer : (x : ℕ) → tally (lists r') x ≤ tally (lists r) x
  unfolding tally
  tally_fewer x =
      rw same
      (count_inside (λ (y : ℕ). mem x (list_in (r'.from y))) (λ (y : ℕ). mem x (list_in (r.from y))) r.heard
      (rising_no_repeats r.heard up) (λ y i. i) (λ y i t. still_says (λ o. mem x (list_in o)) refl y t))

  roster_shorter : length (roster r') ≤ length (roster r)
  roster_shorter =
      inside_length (roster r') (rising_no_repeats (roster r') (roster_rising r' (rw same up)))
      (λ x i. let old = (roster_in r').0 i in (roster_in r).1 (rw same at old.0, still_says (says 1 2) refl x old.1))

  echoed_shorter : length (echoed c (lists r')) ≤ length (echoed c (lists r))
  echoed_shorter =
      inside_length (echoed c (lists r')) (rising_no_repeats (echoed c (lists r')) (echoed_rising c (lists r')))
      (λ x i.
      let old = (echoed_in c (lists r') (rw same some)).0 i in
      let reach = (third_is (tally (lists r') x) (length r.heard)).0 (subst (λ (m : List ℕ). third (tally (lists r') x) (length m) ≡ true) same old.0) in
      (echoed_in c (lists r) some).1 ((third_is (tally (lists r) x) (length r.heard)).1 (omega (arith, tally_fewer x)), old.1))

  candidates_shorter : length (candidates_after c (lists r')) ≤ length (candidates_after c (lists r))
  candidates_shorter =
      inside_length (candidates_after c (lists r')) {m = candidates_after c (lists r)}
      (rising_no_repeats (candidates_after c (lists r')) (candidates_rising c (lists r') h.candidates.rises))
      (λ x i. elim ((candidates_in_lem c (lists r') (rw same some)).0 i) [
        | inl j ↦ (candidates_in_lem c (lists r) some).1 (inl j)
        | inr t ↦
            let old = subst (λ (m : List ℕ). two_thirds (tally (lists r') x) (length m) ≡ true) same t in
            let reach = (two_thirds_is (tally (lists r') x) (length r.heard)).0 old in
            (candidates_in_lem c (lists r) some).1 (inr ((two_thirds_is (tally (lists r) x) (length r.heard)).1 (omega (arith, tally_fewer x))))
      ])

  lists_shorter : (length (step v r').rotor.candidates ≤ length (step v r).rotor.candidates)
      × (length (step v r').rotor.echoes ≤ length (step v r).rotor.echoes)
  lists_shorter = elim (making v.round h.early) [
    | makes_roster e ↦ rw (step_roster v r e, step_roster v r' e) (le_refl _, roster_shorter)
    | makes_value p e ↦ rw (step_value v r p e, step_value v r' p e) (candidates_shorter, echoed_shorter)
    | makes_propose p e ↦ rw (step_propose v r p e, step_propose v r' p e) (le_refl _, le_refl _)
    | makes_turn p e ↦ rw (step_turn v r p e, step_turn v r' p e) (le_refl _, le_refl _)
  ]

-- ---- damaged frames

-- b' is b with some frames damaged to void: the same layout, round and senders, and under each number the same frame or none
pub record Damaged (s : State) (b b' : List ℕ) : Type 0 where
  pub packed : well_formed b' ≡ true
  pub round : round_of b' ≡ round_of b
  pub same_senders : senders (entries b') ≡ senders (entries b)
  pub frames : (x : ℕ) → ((receive (view s) (entries b')).from x ≡ (receive (view s) (entries b)).from x) ⊎ ((receive (view s) (entries b')).from x ≡ None)

-- damage after damage is damage, so what holds of one damaged frame holds of any number of them
pub damaged_again : {s : State} {a b c : List ℕ} → Damaged s a b → Damaged s b c → Damaged s a c
damaged_again {s} {a} {b} {c} d e =
    record {
      packed = e.packed;
      round = e.round ∙ d.round;
      same_senders = e.same_senders ∙ d.same_senders;
      frames = λ x. elim (e.frames x) [
        | inl p ↦ elim (d.frames x) [ inl q ↦ inl (p ∙ q) | inr q ↦ inr (p ∙ q) ]
        | inr p ↦ inr p
      ];
    }

damaged_heard : (s : State) (b b' : List ℕ) → Damaged s b b' → (receive (view s) (entries b')).heard ≡ (receive (view s) (entries b)).heard
unfolding receive
damaged_heard s b b' d = rw d.same_senders

lists_still_fit : (s : State) (b b' : List ℕ) → Damaged s b b' → sound s ≡ true → lists_fit (view s) (entries b) ≡ true → lists_fit (view s) (entries b') ≡ true
lists_still_fit s b b' d test t =
    let v = view s in
    let h = sound_gives s test in
    let fit = (lists_fit_lem v (entries b)).0 t in
    let up = heard_rising v (entries b) h.heard.rises in
    let fewer =
    lists_shorter v h (receive v (entries b)) (receive v (entries b')) (damaged_heard s b b' d) d.frames up (heard_some v (entries b) h) in
    (lists_fit_lem v (entries b')).1 (le_trans fewer.0 fit.0, le_trans fewer.1 fit.1)

-- the earlier tests read nothing that the damage changed
damaged_earlier : (s : State) (b b' : List ℕ) (n : ℕ) → well_formed b ≡ true → Damaged s b b' → earlier_tests s b' n ≡ earlier_tests s b n
damaged_earlier s b b' n h d = rw (d.packed, h, d.round, d.same_senders, damaged_heard s b b' d)

-- the damaged tray's refusal differs from the other's in the eighth test alone
damaged_refusal_is : (s : State) (b b' : List ℕ) (n : ℕ) → well_formed b ≡ true → Damaged s b b'
    → tray_refusal s b' n ≡ first_failed (earlier_tests s b n ++ ((lists_fit (view s) (entries b'), 8) ∷ []))
damaged_refusal_is s b b' n h d =
    tray_refusal_is s b' n
    ∙ ap (λ ts. first_failed (ts ++ ((lists_fit (view s) (entries b'), 8) ∷ []))) (damaged_earlier s b b' n h d)

-- demand 1's last sentence: a damaged frame never gets a well packed tray refused
pub damaged_refusal : (s : State) (b b' : List ℕ) (n : ℕ) → well_formed b ≡ true → Damaged s b b'
    → tray_refusal s b' n ≢ 0 → tray_refusal s b n ≡ tray_refusal s b' n
damaged_refusal s b b' n h d r =
    let is = damaged_refusal_is s b b' n h d in
    tray_refusal_is s b n
    ∙ test_last (earlier_tests s b n) (lists_fit (view s) (entries b)) (lists_fit (view s) (entries b')) 8
    (λ z. lists_still_fit s b b' d (test_passed (earlier_tests s b n) (omega arith) z 0))
    (λ z. r (is ∙ z))
    ∙ sym is

-- ---- damaged bytes

-- a number whose frame is not had: the own one has its own frame
fewer : (t : Bool) (o r : Option Content) → (cond t o None ≡ cond t o r) ⊎ (cond t o None ≡ None)
fewer true o r = inl refl
fewer false o r = inr refl

-- what is had of another number
abbrev had_of : View → List Entry → ℕ → Option Content
had_of v es x = cond (silent v es x) (Some (stand_in v)) (read_in v.round (under x es))

-- where there is under x what there was, or one void frame, or several, the frame had from x is as before or none; the own frame comes from no tray
received_damaged : (v : View) (new : List ℕ) (es es' : List Entry) (x : ℕ) → content new v.round ≡ None
    → (under x es' ≡ under x es) ⊎ ((under x es' ≡ one new) ⊎ (under x es' ≡ several))
    → ((receive v es').from x ≡ (receive v es).from x) ⊎ ((receive v es').from x ≡ None)
unfolding receive
received_damaged v new es es' x void (inl e) = inl (rw e)
received_damaged v new es es' x void (inr (inl e)) =
    rw (e, and-false (mem x v.rotor.heard), void) (fewer (eqb x v.own) (Some (frame_of v)) (had_of v es x))
received_damaged v new es es' x void (inr (inr e)) =
    rw (e, and-false (mem x v.rotor.heard)) (fewer (eqb x v.own) (Some (frame_of v)) (had_of v es x))

-- a frame of a well packed tray overwritten by as many bytes that are void in the state's round
module _ (s : State) (b : List ℕ) (i : ℕ) (new : List ℕ) (packed : well_formed b ≡ true) (counted : i < entry_count b)
    (as_many : length new ≡ length_of b i) (void : content new s.round ≡ None) where
  overwritten_senders : senders (entries (overwritten b i new)) ≡ senders (entries b)
  overwritten_senders =
      let e : Entry = record { sender = sender b i; bytes = new } in
      rw (overwritten_entries b i new packed counted as_many)
      (map-set_same (λ (y : Entry). y.sender) (entries b) i e e (sym (ap (λ (y : Entry). y.sender) (entry_at_lem b i e counted))))

  pub overwritten_damaged : Damaged s b (overwritten b i new)
  overwritten_damaged =
      record {
        packed = overwritten_packed b i new packed counted as_many;
        round = overwritten_round b i new packed counted as_many;
        same_senders = overwritten_senders;
        frames = λ x. received_damaged (view s) new (entries b) (entries (overwritten b i new)) x void (overwritten_under b i new packed counted as_many x);
      }

  -- demand 1's last sentence, of bytes: where the tray is worked, so is the damaged one
  pub overwritten_refusal : (n : ℕ) → tray_refusal s (overwritten b i new) n ≢ 0 → tray_refusal s b n ≡ tray_refusal s (overwritten b i new) n
  overwritten_refusal n = damaged_refusal s b (overwritten b i new) n packed overwritten_damaged
