-- Steps of the published rules are a coordinator rotation.
-- Serves document 01's "The run of demand 3".
--     turn_round r         round 2 + 3r, whose frames are rosters or turns; value_round r and propose_round r, the two after it
--     entering S p r       p's state of the last value round, or of round 2: the one whose lists and decision p enters phase r with
--     had_from S p t s     the frame that p has from s in its tray of round t
--     rotation S           the rotation; at work are those who have not decided
--     rotation_rules S K   it keeps the rules of a rotation
use Rattle.std.proofs.lemmas.Bool.{not-true, not-false}
use Rattle.std.specs.Prelude.{ℕ, zero, suc, ◌+◌, ◌*◌, ◌<◌, ◌≤◌, Bool, true, false, cond, ◌&&◌, List, [], ◌⊎◌, ◌↔◌, ◌≡◌, leb, ltb, length, get_or}
use Rattle.std.proofs.Math.Bool.{not, and-true, and-false}
use Rattle.std.proofs.Common.{true≢false, inl, inr, ◌∙◌, subst, arith, leb-true, le-leb, ne_eqb}
use Rattle.std.specs.Prelude.{Option, Some}
use Rattle.std.proofs.Math.Path.{refl, sym, ap}
use Rattle.controller.specs.Bytes.{Content, kind_of, max_count}
use Rattle.controller.specs.Lists.{In, Rising}
use Rattle.controller.specs.Thirds.{third, two_thirds}
use Rattle.controller.specs.State.{View, undecided}
use Rattle.controller.specs.Received.{Received, ReceivedLists, frame_of, stand_in, says, list_in, lists}
use Rattle.controller.specs.Rotation.{tally, echoed, candidates_after, decides, king_after}
use Rattle.controller.specs.Bit.{phase, bit_taken, decides_now, decision_after}
use Rattle.controller.specs.Rules.{make_roster, make_value, make_propose, make_turn}
use Rattle.controller.specs.Laws.Lists.{true_or_false}
use Rattle.controller.specs.Laws.State.{Sound}
use Rattle.controller.specs.Laws.Thirds.{third_is, two_thirds_is}
use Rattle.controller.specs.Laws.Received.{frame_says, frame_list, stand_in_list}
use Rattle.controller.specs.Laws.Rotation.{roster_in, echoed_in, candidates_in_lem, candidates_rising}
use Rattle.controller.specs.Laws.Rules.{kind_later, step_roster, step_value, step_propose, step_turn, phase_is, bit_taken_bound}
use Rattle.run.proofs.Argument.Counting.{Heard}
use Rattle.run.proofs.Argument.Rotation.{Rotation, RotationRules, Works, ListThird, ListTwoThirds}
use Rattle.run.proofs.Argument.Steps.{Steps, all, Timely, AtWork, StepRules}
use Rattle.run.proofs.Argument.StepsLaws.{somebody_heard, few_faulty, heard_reception}

-- ---- rounds

-- by threes, so that the rounds of a phase compute
abbrev pub turn_round : ℕ → ℕ
turn_round zero = 2
turn_round (suc r) = suc (suc (suc (turn_round r)))

-- round 3 + 3r, whose frames are values
abbrev pub value_round : ℕ → ℕ
value_round r = suc (turn_round r)

-- round 4 + 3r, whose frames are proposals
abbrev pub propose_round : ℕ → ℕ
propose_round r = suc (suc (turn_round r))

pub turn_round_is : (r : ℕ) → turn_round r ≡ 2 + 3 * r
turn_round_is zero = refl
turn_round_is (suc r) = omega (arith, turn_round_is r)

pub kind_value : (r : ℕ) → kind_of (value_round r) ≡ 3
kind_value r = let e = turn_round_is r in kind_later (value_round r) 0 (omega arith) (omega arith)

pub kind_propose : (r : ℕ) → kind_of (propose_round r) ≡ 4
kind_propose r = let e = turn_round_is r in kind_later (propose_round r) 1 (omega arith) (omega arith)

pub kind_turn : (r : ℕ) → kind_of (turn_round (suc r)) ≡ 5
kind_turn r = let e = turn_round_is r in kind_later (turn_round (suc r)) 2 (omega arith) (omega arith)

-- a list is sent in the rounds 2 + 3r
pub list_sent : (r : ℕ) → ltb 0 (max_count (kind_of (turn_round r))) ≡ true
unfolding kind_of max_count
list_sent zero = refl
list_sent (suc r) = rw (kind_turn r)

-- ---- any state, any entries: making round 3 + 3r

pub cond_holds : {A : Type 0} (P : A → Type 0) (b : Bool) {x y : A} → (b ≡ true → P x) → (b ≡ false → P y) → P (cond b x y)
cond_holds P true passed failed = passed refl
cond_holds P false passed failed = failed refl

undecided_value : (v : View) (r : Received) → v.bit.own ≤ 1 → undecided (make_value v r) ≡ (undecided v && not (decides_now v r))
unfolding decision_after
undecided_value v r h = elim (true_or_false (decides_now v r)) [
  | inl d ↦ rw d (ne_eqb (bit_taken v r) 2 (λ e. absurd (omega (arith, bit_taken_bound v r h))) ∙ sym (and-false (undecided v)))
  | inr d ↦ rw d (sym (and-true (undecided v)))
]

-- ---- the rotation

module _ (S : Steps) where
  open S use {correct, faulty, state, received}

  abbrev pub entering : ℕ → ℕ → View
  entering p zero = state p (turn_round 0)
  entering p (suc r) = state p (value_round r)

  -- whom p has heard with its tray of round t
  abbrev heard_in : ℕ → ℕ → List ℕ
  heard_in p t = (received p t).heard

  -- what p has from s in that tray
  abbrev pub had_from : ℕ → ℕ → ℕ → Option Content
  had_from p t s = (received p t).from s

  abbrev pub rotation : Rotation
  rotation = record {
    correct = correct;
    faulty = faulty;
    observers = correct;
    live = λ p r. undecided (entering p r);
    decided = λ p r. not (undecided (entering p r));
    heard_turn = λ p r. heard_in p (turn_round r);
    heard_value = λ p r. heard_in p (value_round r);
    heard_propose = λ p r. heard_in p (propose_round r);
    list_from = λ p r s. list_in (had_from p (turn_round r) s);
    echoes = λ p r. (entering p r).rotor.echoes;
    candidates = λ p r. (entering p r).rotor.candidates;
    king = λ p r. (entering p (suc r)).rotor.king;
  }

  -- ---- rounds of a phase keep the guarantee

  timely_first : Timely S 1
  timely_first = record { first = omega arith; last = omega arith }

  module _ {r : ℕ} where
    timely_turn : r ≤ length (all S) → Timely S (turn_round r)
    timely_turn h = let e = turn_round_is r in record { first = omega arith; last = omega arith }

    timely_value : suc r ≤ length (all S) → Timely S (value_round r)
    timely_value h = let e = turn_round_is r in record { first = omega arith; last = omega arith }

    timely_propose : suc r ≤ length (all S) → Timely S (propose_round r)
    timely_propose h = let e = turn_round_is r in record { first = omega arith; last = omega arith }

  module _ (K : StepRules S) where
    open K use {differ, begins, sound, receives, follows, rests}

    -- ---- who is at work in a phase, and what it makes

    work_first : {p : ℕ} → In p correct → AtWork S p 1
    work_first {p} i = record { member = i; timely = timely_first; active = ap (λ v. undecided v) (begins p i) }

    pub made_roster : {p : ℕ} → In p correct → state p (turn_round 0) ≡ make_roster (state p 1) (received p 1)
    made_roster {p} i = let w = work_first i in follows p 1 w ∙ step_roster _ _ (K.round p 1 w)

    module _ {p r : ℕ} (w : Works rotation p (suc r)) where
      pub work_value : AtWork S p (value_round r)
      work_value = record { member = w.observes; timely = timely_value w.timely; active = w.alive }

      pub made_propose : state p (propose_round r) ≡ make_propose (state p (value_round r)) (received p (value_round r))
      made_propose = follows p _ work_value ∙ step_propose _ _ r (K.round p _ work_value ∙ omega (arith, turn_round_is r))

      pub work_propose : AtWork S p (propose_round r)
      work_propose = record { member = w.observes; timely = timely_propose w.timely; active = ap (λ v. undecided v) made_propose ∙ w.alive }

      pub made_turn : state p (turn_round (suc r)) ≡ make_turn (state p (propose_round r)) (received p (propose_round r))
      made_turn = follows p _ work_propose ∙ step_turn _ _ r (K.round p _ work_propose ∙ omega (arith, turn_round_is r))

    -- what making rounds 4 + 3r and 5 + 3r leaves as it is
    pub before_same : {A : Type 0} (f : View → A)
        → ((v : View) (r : Received) → f (make_propose v r) ≡ f v) → ((v : View) (r : Received) → f (make_turn v r) ≡ f v)
        → {p : ℕ} (r : ℕ) → Works rotation p r → f (state p (turn_round r)) ≡ f (entering p r)
    before_same f propose turn zero w = refl
    before_same f propose turn (suc r) w = ap f (made_turn w) ∙ turn _ _ ∙ ap f (made_propose w) ∙ propose _ _

    module _ {p r : ℕ} (w : Works rotation p r) where
      pub work_turn : AtWork S p (turn_round r)
      work_turn =
          record {
            member = w.observes;
            timely = timely_turn w.timely;
            active = before_same (λ v. undecided v) (λ v m. refl) (λ v m. refl) r w ∙ w.alive;
          }

      pub made_value : state p (value_round r) ≡ make_value (state p (turn_round r)) (received p (turn_round r))
      made_value = follows p _ work_turn ∙ step_value _ _ r (K.round p _ work_turn ∙ turn_round_is r)

    -- ---- who has decided stays as it is

    module _ {p : ℕ} (i : In p correct) where
      pub rests_propose : {r : ℕ} → suc r ≤ length (all S) → undecided (entering p (suc r)) ≡ false → state p (propose_round r) ≡ entering p (suc r)
      rests_propose h d = rests p _ i (timely_value h) d

      rests_turn : (r : ℕ) → r ≤ length (all S) → undecided (entering p r) ≡ false → state p (turn_round r) ≡ entering p r
      rests_turn zero h d = refl
      rests_turn (suc r) h d =
          let before = rests_propose h d in
          rests p _ i (timely_propose h) (ap (λ v. undecided v) before ∙ d) ∙ before

      pub rests_phase : {r : ℕ} → r ≤ length (all S) → undecided (entering p r) ≡ false → entering p (suc r) ≡ entering p r
      rests_phase {r} h d =
          let before = rests_turn r h d in
          rests p _ i (timely_turn h) (ap (λ v. undecided v) before ∙ d) ∙ before

    worked_before : {p r : ℕ} → Works rotation p (suc r) → undecided (entering p r) ≡ true
    worked_before {p} {r} w = elim (true_or_false (undecided (entering p r))) [
      | inl u ↦ u
      | inr d ↦ absurd (true≢false (sym w.alive ∙ ap (λ v. undecided v) (rests_phase w.observes {r = r} (omega (arith, w.timely)) d) ∙ d))
    ]

    pub works_alive : {s r : ℕ} → In s correct → r ≤ length (all S) → undecided (entering s r) ≡ true → Works rotation s r
    works_alive j h u = record { observes = j; timely = h; alive = u }

    -- ---- what is heard and had in a round

    module _ {p t : ℕ} (w : AtWork S p t) where
      pub heard_in_round : Heard correct faulty (heard_in p t)
      heard_in_round = heard_reception S K w.member w.timely (receives p t w)

      -- from a correct one at work p has the frame that it sent
      pub received_sent : {s : ℕ} → AtWork S s t → had_from p t s ≡ Some (frame_of (state s t))
      received_sent {s} x = (receives p t w).frames s x.member x.active

      -- from one gone quiet its own, without its opinion
      pub received_quiet : {s : ℕ} → In s correct → undecided (state s t) ≡ false → had_from p t s ≡ Some (stand_in (state p t))
      received_quiet {s} j d = (receives p t w).quiet s j d

    -- ---- the first round and the second

    module _ {p : ℕ} (i : In p correct) where
      start_roster : {k : ℕ} → In k (entering p 0).rotor.echoes ↔ (In k (heard_in p 1) × (says 1 2 (had_from p 1 k) ≡ true))
      start_roster = rw (made_roster i) (roster_in (received p 1))

      -- every correct one sends init
      start_says : {k : ℕ} → In k correct → says 1 2 (had_from p 1 k) ≡ true
      unfolding kind_of
      start_says {k} j =
          let x = work_first j in
          rw (received_sent (work_first i) x, frame_says (state k 1) (sound k 1 x) x.active 1 2, begins k j) refl

    -- ---- making round 3 + 3r

    module _ {p r : ℕ} (w : Works rotation p r) where
      abbrev v : View
      v = state p (turn_round r)

      abbrev got : Received
      got = received p (turn_round r)

      abbrev l : ReceivedLists
      l = lists got

      good : Sound v
      good = sound p (turn_round r) (work_turn w)

      somebody : 0 < length got.heard
      somebody = somebody_heard S w.observes (receives p (turn_round r) (work_turn w))

      pub undecided_after : undecided (entering p (suc r)) ≡ (undecided v && not (decides_now v got))
      undecided_after = ap (λ u. undecided u) (made_value w) ∙ undecided_value v got good.bit

      pub phase_here : phase v ≡ r
      phase_here = phase_is v r (K.round p _ (work_turn w) ∙ turn_round_is r)

      candidates_before : v.rotor.candidates ≡ (entering p r).rotor.candidates
      candidates_before = before_same (λ v. v.rotor.candidates) (λ v m. refl) (λ v m. refl) r w

      candidates_made : (entering p (suc r)).rotor.candidates ≡ candidates_after v.rotor l
      candidates_made = ap (λ w. w.rotor.candidates) (made_value w)

      third_here : (x : ℕ) → (third (tally l x) (length got.heard) ≡ true) ↔ ListThird rotation p r x
      unfolding tally
      third_here x = third_is _ _

      two_thirds_here : (x : ℕ) → (two_thirds (tally l x) (length got.heard) ≡ true) ↔ ListTwoThirds rotation p r x
      unfolding tally
      two_thirds_here x = two_thirds_is _ _

      echo_here : {x : ℕ} → In x (entering p (suc r)).rotor.echoes ↔ ((¬ In x (entering p r).rotor.candidates) × ListThird rotation p r x)
      echo_here {x} =
          let made : (entering p (suc r)).rotor.echoes ≡ echoed v.rotor l = ap (λ w. w.rotor.echoes) (made_value w) in
          let old = candidates_before in
          let law = echoed_in v.rotor l {x = x} somebody in (
            λ j. let (reach, new) = law.0 (subst (In x) made j) in (λ c. new (subst (In x) (sym old) c), (third_here x).0 reach),
            λ (new, reach). subst (In x) (sym made) (law.1 ((third_here x).1 reach, λ c. new (subst (In x) old c))),
          )

      candidate_here : {x : ℕ} → In x (entering p (suc r)).rotor.candidates ↔ (In x (entering p r).rotor.candidates ⊎ ListTwoThirds rotation p r x)
      candidate_here {x} =
          let made = candidates_made in
          let old = candidates_before in
          let law = candidates_in_lem v.rotor l {x = x} somebody in (
            λ j. elim (law.0 (subst (In x) made j)) [ inl c ↦ inl (subst (In x) old c) | inr reach ↦ inr ((two_thirds_here x).0 reach) ],
            λ j. subst (In x) (sym made) (law.1 (elim j [ inl c ↦ inl (subst (In x) (sym old) c) | inr reach ↦ inr ((two_thirds_here x).1 reach) ])),
          )

      rising_here : Rising (entering p (suc r)).rotor.candidates
      rising_here = rw (made_value w) (candidates_rising v.rotor l good.candidates.rises)

      decides_here : (undecided (entering p (suc r)) ≡ false) ↔ (length (entering p (suc r)).rotor.candidates ≤ r)
      unfolding decides
      decides_here =
          let test : undecided (entering p (suc r)) ≡ not (leb (length (entering p (suc r)).rotor.candidates) r) =
          undecided_after ∙ rw ((work_turn w).active, phase_here, candidates_made) refl in (
            λ d. leb-true _ _ (not-false _ (sym test ∙ d)),
            λ l. test ∙ ap not (le-leb _ _ l),
          )

      named_here : undecided (entering p (suc r)) ≡ true → (entering p (suc r)).rotor.king ≡ get_or (entering p (suc r)).rotor.candidates r 0
      unfolding king_after
      named_here u = rw (made_value w, sym undecided_after ∙ u, phase_here) refl

    -- the list of the frame that p sends in round 2 + 3r
    list_of_frame : {p r : ℕ} → Works rotation p r → list_in (Some (frame_of (state p (turn_round r)))) ≡ (entering p r).rotor.echoes
    list_of_frame {p} {r} w =
        let v = state p (turn_round r) in
        frame_list v
        ∙ ap (λ t. cond (ltb 0 (max_count (kind_of t))) v.rotor.echoes []) (K.round p _ (work_turn w))
        ∙ ap (λ b. cond b v.rotor.echoes []) (list_sent r)
        ∙ before_same (λ v. v.rotor.echoes) (λ v m. refl) (λ v m. refl) r w

    -- the list that p has from a correct one at work is the list that it sent
    list_received : {p s r : ℕ} → Works rotation p r → Works rotation s r → list_in (had_from p (turn_round r) s) ≡ (entering s r).rotor.echoes
    list_received w x = ap list_in (received_sent (work_turn w) (work_turn x)) ∙ list_of_frame x

    -- from one gone quiet it is p's own
    list_stands_in : {p s r : ℕ} → Works rotation p r → In s correct → undecided (entering s r) ≡ false
        → list_in (had_from p (turn_round r) s) ≡ (entering p r).rotor.echoes
    list_stands_in {p} {s} {r} w j d =
        let quiet = ap (λ v. undecided v) (rests_turn j r w.timely d) ∙ d in
        ap list_in (received_quiet (work_turn w) j quiet) ∙ stand_in_list (state p (turn_round r)) ∙ list_of_frame w

    pub rotation_rules : RotationRules rotation
    rotation_rules = record {
      apart = differ;
      few = few_faulty S K;
      watch = λ p i. i;
      fresh = λ i. ap (λ v. not (undecided v)) (made_roster i) ∙ ap (λ v. not (undecided v)) (begins _ i);
      stays = λ i h d. ap (λ v. not (undecided v)) (rests_phase i h (not-true _ d)) ∙ d;
      awake = λ i h d. not-false _ d;
      earlier = λ w. worked_before w;
      heard_turn_lem = λ w. heard_in_round (work_turn w);
      heard_value_lem = λ w. heard_in_round (work_value w);
      heard_propose_lem = λ w. heard_in_round (work_propose w);
      list_of = λ w j t. list_received w (works_alive j w.timely t);
      list_own = λ w j d. list_stands_in w j d;
      roster_all = λ i j. (start_roster i).1 ((heard_in_round (work_first i)).whole _ j, start_says i j);
      roster_only = λ i x j. (heard_in_round (work_first i)).within x ((start_roster i).0 j).0;
      none = λ i. ap (λ v. v.rotor.candidates) (made_roster i) ∙ ap (λ v. v.rotor.candidates) (begins _ i);
      rising = λ w. rising_here w;
      echo = λ w. echo_here w;
      candidate = λ w. candidate_here w;
      decides = λ w d. (λ e. (decides_here w).0 (not-true _ e), λ l. ap not ((decides_here w).1 l));
      named = λ w d. named_here w (not-false _ d);
    }
