-- Laws of states: what soundness gives, and that a sound state is determined by its view.
use Rattle.std.specs.Prelude.{ℕ, ◌+◌, ◌-◌, ◌≤◌, ◌<◌, Bool, true, false, not, cond, ◌&&◌, List, [], ◌∷◌, ◌++◌, ◌≢◌, ◌↔◌, ◌≡◌, refl, leb, eqb, length}
use Rattle.std.specs.Prelude.{take, replicate}
use Rattle.std.proofs.Common.{true≢false, inl, inr, sym, ap, ◌∙◌, leb-true, eqb-true, le-leb, eq-eqb, ne_eqb, arith, length-append, length-take}
use Rattle.std.proofs.Math.Bool.{and-eq-true_iff}
use mathlib.Core.List.Memᴰ
use Rattle.std.proofs.lemmas.Bool.{eqb-false, not-true}
use Rattle.std.proofs.lemmas.List.{length-replicate}
use Rattle.wire.specs.Frame.{kind_of, bit_fits, round_fits}
use Rattle.wire.specs.Limits.{max_numbers, last_round}
use Rattle.wire.specs.Numbers.{rising, stored, listed}
use Rattle.wire.specs.Laws.Numbers.{listed_stored}
use Rattle.wire.specs.declared.frame.Numbers.{Numbers}
use Rattle.controller.specs.Lists.{In, mem, Rising}
use Rattle.controller.specs.State.{View, view, undecided, stored_state, start_view, same, sound_list, is_empty, sound_said, sound_empty, sound_rules}
use Rattle.controller.specs.State.{first_fits, alongside, recorded, sound_beside, sound, bit_part, state_from}
use Rattle.controller.specs.Laws.Lists.{in_mem, mem_in, rising_gives, rising_test}
use Rattle.controller.specs.declared.state.State.{State}

pub view_stored : (v : View) (p : List ℕ) → view (stored_state v p) ≡ v
view_stored v p =
    let heard = listed_stored v.rotor.heard in
    let candidates = listed_stored v.rotor.candidates in
    let echoes = listed_stored v.rotor.echoes in
    λ i.
    record {
      own = v.own;
      round = v.round;
      rotor = record { heard = heard i; candidates = candidates i; echoes = echoes i; king = v.rotor.king };
      bit = v.bit;
    }

-- a list as a sound state has it
pub record SoundList (l : List ℕ) : Type 0 where
  pub short : length l ≤ max_numbers
  pub rises : Rising l
  pub positive : (x : ℕ) → In x l → 0 < x

-- what soundness says of the view, rule by rule
pub record Sound (v : View) : Type 0 where
  pub early : 1 ≤ v.round
  pub late : v.round ≤ last_round
  pub numbered : v.own ≢ 0
  pub hears_itself : In v.own v.rotor.heard
  pub heard : SoundList v.rotor.heard
  pub candidates : SoundList v.rotor.candidates
  pub echoes : SoundList v.rotor.echoes
  pub said : undecided v ≡ true → bit_fits (kind_of v.round) v.bit.said ≡ true
  pub said_value : undecided v ≡ true → kind_of v.round ≡ 3 → v.bit.said ≡ v.bit.own
  pub quiet : undecided v ≡ false → v.bit.said ≡ 2
  pub no_candidates : v.round ≤ 2 → v.rotor.candidates ≡ []
  pub no_echoes : v.round ≤ 1 → v.rotor.echoes ≡ []
  pub bit : v.bit.own ≤ 1
  pub strong : v.bit.strong ≤ 1
  pub decision : v.bit.decision ≤ 2

-- ---- the tests that soundness is made of

pub same_gives : (l m : List ℕ) → same l m ≡ true → l ≡ m
same_gives [] [] h = refl
same_gives [] (y ∷ m) h = absurd (true≢false (sym h))
same_gives (x ∷ l) [] h = absurd (true≢false (sym h))
same_gives (x ∷ l) (y ∷ m) h =
    let both = (and-eq-true_iff (eqb x y) (same l m)).0 h in
    let head = eqb-true x y both.0 in
    let tail = same_gives l m both.1 in
    cc

pub same_test : (l : List ℕ) → same l l ≡ true
same_test [] = refl
same_test (x ∷ l) = rw (eq-eqb x x refl) (same_test l)

-- a part that both begin with is the same
pub same_append : (l m k : List ℕ) → same (l ++ m) (l ++ k) ≡ same m k
same_append [] m k = refl
same_append (x ∷ l) m k = rw (eq-eqb x x refl) (same_append l m k)

empty_gives : (l : List ℕ) → is_empty l ≡ true → l ≡ []
empty_gives [] h = refl
empty_gives (x ∷ l) h = absurd (omega (arith, eqb-true (length (x ∷ l)) 0 h))

-- b is tested only where a holds
when_is : (a b : Bool) → (cond a b true ≡ true) ↔ (a ≡ true → b ≡ true)
when_is true b = (λ h e. h, λ f. f refl)
when_is false b = (λ h e. absurd (true≢false (sym e)), λ f. refl)

-- b is tested where a holds, else c
choice_is : (a b c : Bool) → (cond a b c ≡ true) ↔ ((a ≡ true → b ≡ true) × (a ≡ false → c ≡ true))
choice_is true b c = (λ h. (λ e. h, λ e. absurd (true≢false e)), λ f. f.0 refl)
choice_is false b c = (λ h. (λ e. absurd (true≢false (sym e)), λ e. h), λ f. f.1 refl)

-- a list that passes is short and rises from above 0, and its stored form is the one in hand
pub record ListTests (n : Numbers) : Type 0 where
  pub list : SoundList (listed n)
  pub back : stored (listed n) ≡ n
  pub used : length (listed n) ≡ n.len
  pub places : length n.at ≡ max_numbers

pub sound_list_gives : (n : Numbers) → sound_list n ≡ true → ListTests n
sound_list_gives n h =
    let l = listed n in
    let e₂ = (and-eq-true_iff (leb n.len max_numbers && rising 0 l) (same n.at (stored l).at)).0 h in
    let e₁ = (and-eq-true_iff (leb n.len max_numbers) (rising 0 l)).0 e₂.0 in
    let few : n.len ≤ max_numbers = leb-true _ _ e₁.0 in
    let up = rising_gives l e₁.1 in
    let at : n.at ≡ l ++ replicate (max_numbers - length l) 0 = same_gives _ _ e₂.1 in
    let size : length n.at ≡ length l + (max_numbers - length l) = ap length at ∙ simp (length-append, length-replicate) in
    let len : length l ≡ n.len = omega (arith, length-take n.len n.at) in
    record {
      list = record { short = omega arith; rises = up.0; positive = up.1 };
      back = λ i. record { len = len i; at = sym at i };
      used = len;
      places = omega (arith, length-take n.len n.at);
    }

pub sound_list_test : (l : List ℕ) → SoundList l → sound_list (stored l) ≡ true
sound_list_test l h =
    rw (listed_stored l, le-leb (length l) max_numbers h.short, rising_test l h.rises h.positive)
    (same_test (stored l).at)

-- the tests of soundness, one by one
record Tests (s : State) : Type 0 where
  round : round_fits s.round ≡ true
  numbered : not (eqb s.own 0) ≡ true
  hears_itself : mem s.own (listed s.heard) ≡ true
  heard : sound_list s.heard ≡ true
  candidates : sound_list s.candidates ≡ true
  echoes : sound_list s.echoes ≡ true
  said : sound_said (view s) ≡ true
  empty : sound_empty (view s) ≡ true
  bit : leb s.bit 1 ≡ true
  strong : leb s.strong 1 ≡ true
  decision : leb s.decision 2 ≡ true

tests_give : (s : State) → sound_rules s ≡ true → Tests s
unfolding sound_rules
tests_give s h =
    let e₅ = (and-eq-true_iff _ (leb s.bit 1 && leb s.strong 1 && leb s.decision 2)).0 h in
    let e₄ = (and-eq-true_iff _ (sound_empty (view s))).0 e₅.0 in
    let e₃ = (and-eq-true_iff _ (sound_said (view s))).0 e₄.0 in
    let e₂ = (and-eq-true_iff _ (sound_list s.heard && sound_list s.candidates && sound_list s.echoes)).0 e₃.0 in
    let e₁ = (and-eq-true_iff (round_fits s.round) (not (eqb s.own 0) && mem s.own (listed s.heard))).0 e₂.0 in
    let own = (and-eq-true_iff (not (eqb s.own 0)) (mem s.own (listed s.heard))).0 e₁.1 in
    let lists = (and-eq-true_iff (sound_list s.heard && sound_list s.candidates) (sound_list s.echoes)).0 e₂.1 in
    let notes = (and-eq-true_iff (sound_list s.heard) (sound_list s.candidates)).0 lists.0 in
    let bits = (and-eq-true_iff (leb s.bit 1 && leb s.strong 1) (leb s.decision 2)).0 e₅.1 in
    let pair = (and-eq-true_iff (leb s.bit 1) (leb s.strong 1)).0 bits.0 in
    record {
      round = e₁.0;
      numbered = own.0;
      hears_itself = own.1;
      heard = notes.0;
      candidates = notes.1;
      echoes = lists.1;
      said = e₃.1;
      empty = e₄.1;
      bit = pair.0;
      strong = pair.1;
      decision = bits.1;
    }

tests_sound : (s : State) → Tests s → sound_rules s ≡ true
unfolding sound_rules
tests_sound s t =
    rw (
      t.round,
      t.numbered,
      t.hears_itself,
      t.heard,
      t.candidates,
      t.echoes,
      t.said,
      t.empty,
      t.bit,
      t.strong,
      t.decision,
    )

recorded_length : (w : List ℕ) → length w ≤ max_numbers → length (recorded w) ≡ max_numbers
recorded_length w h = omega (arith, length-append w (replicate (max_numbers - length w) 0), length-replicate {A = ℕ} (max_numbers - length w) 0)

-- ---- soundness

pub sound_rules_lem : (s : State) → sound s ≡ true → sound_rules s ≡ true
unfolding sound
sound_rules_lem s h = ((and-eq-true_iff (sound_rules s) (sound_beside s.own (listed s.heard) s.since)).0 h).0

pub sound_beside_lem : (s : State) → sound s ≡ true → sound_beside s.own (listed s.heard) s.since ≡ true
unfolding sound
sound_beside_lem s h = ((and-eq-true_iff (sound_rules s) (sound_beside s.own (listed s.heard) s.since)).0 h).1

pub rules_give : (s : State) → sound_rules s ≡ true → Sound (view s)
unfolding round_fits
rules_give s h =
    let t = tests_give s h in
    let round = (and-eq-true_iff (leb 1 s.round) (leb s.round last_round)).0 t.round in
    let said = (choice_is (undecided (view s)) _ _).0 t.said in
    let fits = (and-eq-true_iff (bit_fits (kind_of s.round) s.said) _).0 in
    let empty = (and-eq-true_iff (cond (leb s.round 2) (is_empty (listed s.candidates)) true) _).0 t.empty in
    record {
      early = leb-true _ _ round.0;
      late = leb-true _ _ round.1;
      numbered = eqb-false _ _ (not-true _ t.numbered);
      hears_itself = mem_in _ t.hears_itself;
      heard = (sound_list_gives s.heard t.heard).list;
      candidates = (sound_list_gives s.candidates t.candidates).list;
      echoes = (sound_list_gives s.echoes t.echoes).list;
      said = λ u. (fits (said.0 u)).0;
      said_value = λ u e. eqb-true _ _ ((when_is _ _).0 (fits (said.0 u)).1 (eq-eqb _ _ e));
      quiet = λ u. eqb-true _ _ (said.1 u);
      no_candidates = λ l. empty_gives _ ((when_is _ _).0 empty.0 (le-leb _ _ l));
      no_echoes = λ l. empty_gives _ ((when_is _ _).0 empty.1 (le-leb _ _ l));
      bit = leb-true _ _ t.bit;
      strong = leb-true _ _ t.strong;
      decision = leb-true _ _ t.decision;
    }

-- what soundness says of the record's places: they are in range, and hold nothing else
pub beside_gives : (own : ℕ) (l p : List ℕ) → sound_beside own l p ≡ true
    → (alongside (first_fits own) l (take (length l) p) ≡ true) × (recorded (take (length l) p) ≡ p)
unfolding sound_beside
beside_gives own l p h =
    let both = (and-eq-true_iff (alongside (first_fits own) l (take (length l) p)) _).0 h in
    (both.0, sym (same_gives _ _ both.1))

-- the record has its 64 places
pub since_places : (s : State) → sound s ≡ true → length s.since ≡ max_numbers
since_places s h =
    let l = listed s.heard in
    let few = (sound_list_gives s.heard (tests_give s (sound_rules_lem s h)).heard).list.short in
    sym (ap length (beside_gives s.own l s.since (sound_beside_lem s h)).1)
    ∙ recorded_length (take (length l) s.since) (omega (arith, length-take (length l) s.since))

pub sound_gives : (s : State) → sound s ≡ true → Sound (view s)
sound_gives s h = rules_give s (sound_rules_lem s h)

pub rules_round : (s : State) → sound_rules s ≡ true → round_fits s.round ≡ true
rules_round s h = (tests_give s h).round

pub rules_heard : (s : State) → sound_rules s ≡ true → sound_list s.heard ≡ true
rules_heard s h = (tests_give s h).heard

pub rules_candidates : (s : State) → sound_rules s ≡ true → sound_list s.candidates ≡ true
rules_candidates s h = (tests_give s h).candidates

-- a sound state is the stored form of its view, beside its record
pub rules_stored : (s : State) → sound_rules s ≡ true → stored_state (view s) s.since ≡ s
rules_stored s h =
    let t = tests_give s h in
    let heard = (sound_list_gives s.heard t.heard).back in
    let candidates = (sound_list_gives s.candidates t.candidates).back in
    let echoes = (sound_list_gives s.echoes t.echoes).back in
    λ i.
    state_from s.own s.round (bit_part s) s.king (heard i) (candidates i) (echoes i) s.since

pub rules_test : (v : View) (p : List ℕ) → Sound v → sound_rules (stored_state v p) ≡ true
unfolding round_fits
rules_test v p h =
    tests_sound (stored_state v p)
    record {
      round = (and-eq-true_iff (leb 1 v.round) (leb v.round last_round)).1 (le-leb _ _ h.early, le-leb _ _ h.late);
      numbered = ap not (ne_eqb _ _ h.numbered);
      hears_itself = rw (listed_stored v.rotor.heard) (in_mem h.hears_itself);
      heard = sound_list_test v.rotor.heard h.heard;
      candidates = sound_list_test v.rotor.candidates h.candidates;
      echoes = sound_list_test v.rotor.echoes h.echoes;
      said =
          (choice_is (undecided v) _ _).1 (
            λ u. (and-eq-true_iff _ _).1 (h.said u, (when_is _ _).1 (λ e. eq-eqb _ _ (h.said_value u (eqb-true _ _ e)))),
            λ u. eq-eqb _ _ (h.quiet u),
          );
      empty =
          (and-eq-true_iff _ _).1 (
            (when_is (leb v.round 2) (is_empty (listed (stored v.rotor.candidates)))).1
                (λ e. rw (listed_stored v.rotor.candidates, h.no_candidates (leb-true _ _ e))),
            (when_is (leb v.round 1) (is_empty (listed (stored v.rotor.echoes)))).1
                (λ e. rw (listed_stored v.rotor.echoes, h.no_echoes (leb-true _ _ e))),
          );
      bit = le-leb _ _ h.bit;
      strong = le-leb _ _ h.strong;
      decision = le-leb _ _ h.decision;
    }

-- a sound view, with a record that is sound beside those heard, is stored as a sound state
pub sound_both : (v : View) (p : List ℕ) → Sound v → sound_beside v.own v.rotor.heard p ≡ true → sound (stored_state v p) ≡ true
unfolding sound
sound_both v p h b = rw (rules_test v p h, listed_stored v.rotor.heard) b

pub start_sound : (number bit : ℕ) → number ≢ 0 → bit ≤ 1 → Sound (start_view number bit)
unfolding kind_of bit_fits
start_sound number bit h b =
    let empty : SoundList [] = record { short = omega arith; rises = tt; positive = λ x i. absurd (Memᴰ.not-nil i) } in
    record {
      early = omega arith;
      late = omega arith;
      numbered = h;
      hears_itself = Memᴰ.head refl;
      heard =
          record {
            short = omega arith;
            rises = (λ x i. absurd (Memᴰ.not-nil i), tt);
            positive = λ x i. elim (Memᴰ.cases_cons i) [ inl e ↦ omega arith | inr j ↦ absurd (Memᴰ.not-nil j) ];
          };
      candidates = empty;
      echoes = empty;
      said = λ u. refl;
      said_value = λ u e. absurd (omega arith);
      quiet = λ u. refl;
      no_candidates = λ l. refl;
      no_echoes = λ l. refl;
      bit = b;
      strong = omega arith;
      decision = omega arith;
    }
