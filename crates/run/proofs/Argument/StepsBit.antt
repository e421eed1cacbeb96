-- Steps of the published rules are a bit instance over their coordinator rotation.
-- Serves document 01's "The run of demand 3".
--     bit_of k o        the bit of a received frame of kind k, 2 for anything else
--     bits S            the bit instance
--     bit_rules S K     it keeps the rules of a bit instance
--     first_value S K   the first value sent is the bit brought in
use Rattle.std.proofs.lemmas.Bool.{eqb-false, not-true, not-false}
use Rattle.std.specs.Prelude.{Bool, ◌&&◌, List, [], ◌∷◌, ◌⊎◌, ◌↔◌, ◌≢◌, ◌≡◌, ltb, length}
use Rattle.std.proofs.Math.Bool.{true, false, not, cond, and-eq-true_iff}
use Rattle.std.proofs.Common.{true≢false, inl, inr, sym, ap, ◌∙◌, arith, ℕ, zero, suc, ◌+◌, ◌≤◌, ◌<◌, zero-le, leb-true, le-leb, ltb-true, lt-ltb}
use Rattle.std.proofs.Common.{eq-eqb, eqb-true, ne_eqb}
use mathlib.Core.List.Memᴰ
use Rattle.std.specs.Prelude.{Option, Some, None}
use Rattle.std.proofs.Math.Path.{refl}
use Rattle.std.proofs.Math.Dec.{eqb, leb}
use Rattle.controller.specs.Bytes.{Content, kind_of, kind_said, bit_said}
use Rattle.controller.specs.Lists.{In, count_if}
use Rattle.controller.specs.State.{View, undecided}
use Rattle.controller.specs.Received.{Received, frame_of, stand_in, says, opinion_in, count}
use Rattle.controller.specs.Bit.{phase, king_opinion, bit_taken, decides_now, decision_after, value_two_thirds, proposal_third}
use Rattle.controller.specs.Bit.{proposal_two_thirds, proposal, bit_adopted, strong_after, opinion}
use Rattle.controller.specs.Laws.State.{Sound}
use Rattle.controller.specs.Laws.Thirds.{third_is, two_thirds_is}
use Rattle.controller.specs.Laws.Received.{frame_says, stand_in_says}
use Rattle.run.proofs.Argument.Counting.{Third, TwoThirds}
use Rattle.run.proofs.Argument.CountingLaws.{two_thirds_apart}
use Rattle.run.proofs.Argument.Rotation.{Works}
use Rattle.run.proofs.Argument.Bit.{BitInstance, BitRules, values, ValueTwoThirds, ProposalThird, ProposalTwoThirds}
use Rattle.run.proofs.Argument.Steps.{Steps, AtWork, StepRules}
use Rattle.run.proofs.Argument.StepsLaws.{few_faulty}
use Rattle.run.proofs.Argument.StepsRotation.{turn_round, value_round, propose_round, kind_value, kind_propose}
use Rattle.run.proofs.Argument.StepsRotation.{kind_turn, cond_holds, entering, had_from, rotation}
use Rattle.run.proofs.Argument.StepsRotation.{made_roster, work_value, made_propose, work_propose, made_turn, work_turn, made_value, before_same}
use Rattle.run.proofs.Argument.StepsRotation.{rests_propose, rests_phase, works_alive, undecided_after, phase_here}
use Rattle.run.proofs.Argument.StepsRotation.{heard_in_round, received_sent, received_quiet}

abbrev pub bit_of : ℕ → Option Content → ℕ
bit_of k None = 2
bit_of k (Some c) = cond (eqb (kind_said c.said) k) (bit_said c.said) 2

-- ---- tests and claims

iff_false : {A : Type 0} (b : Bool) → (b ≡ true) ↔ A → (¬ A) → b ≡ false
iff_false true law n = absurd (n (law.0 refl))
iff_false false law n = refl

iff_same : (a b : Bool) → (a ≡ true) ↔ (b ≡ true) → a ≡ b
iff_same true b law = sym (law.0 refl)
iff_same false true law = law.1 refl
iff_same false false law = refl

-- ---- any state, any entries

says_bit : (k b : ℕ) (o : Option Content) → b < 2 → says k b o ≡ eqb (bit_of k o) b
says_bit k b None h = sym (ne_eqb 2 b (λ e. absurd (omega arith)))
says_bit k b (Some c) h = pick (eqb (kind_said c.said) k)
  where
    pick : (t : Bool) → (t && eqb (bit_said c.said) b) ≡ eqb (cond t (bit_said c.said) 2) b
    pick true = refl
    pick false = sym (ne_eqb 2 b (λ e. absurd (omega arith)))

opinion_bit : (o : Option Content) → opinion_in o ≡ bit_of 5 o
opinion_bit None = refl
opinion_bit (Some c) = refl

-- the bit of a frame of kind k that says b
bit_said_lem : (k b : ℕ) (c : Content) → says k b (Some c) ≡ true → bit_of k (Some c) ≡ b
bit_said_lem k b c said =
    let parts = (and-eq-true_iff (eqb (kind_said c.said) k) (eqb (bit_said c.said) b)).0 said in
    ap (λ t. cond t (bit_said c.said) 2) parts.0 ∙ eqb-true _ _ parts.1

-- a sound state that has not decided, of a round of kind k
module _ (v : View) (k : ℕ) (h : Sound v) (u : undecided v ≡ true) (kind : kind_of v.round ≡ k) where
  -- its frame has the bit that it says
  bit_sent : bit_of k (Some (frame_of v)) ≡ v.bit.said
  bit_sent =
      bit_said_lem k v.bit.said (frame_of v)
      (frame_says v h u k v.bit.said ∙ rw (eq-eqb _ _ kind, eq-eqb v.bit.said v.bit.said refl) refl)

  -- and so has what stands in for one that is silent, but for an opinion
  bit_stands_in : k ≢ 5 → bit_of k (Some (stand_in v)) ≡ v.bit.said
  bit_stands_in other =
      bit_said_lem k v.bit.said (stand_in v)
      (stand_in_says v h u k v.bit.said ∙ rw (kind, ne_eqb k 5 other, eq-eqb k k refl, eq-eqb v.bit.said v.bit.said refl) refl)

pub count_same : (f g : ℕ → Bool) (l : List ℕ) → ((x : ℕ) → In x l → f x ≡ g x) → count_if f l ≡ count_if g l
count_same f g [] same = refl
count_same f g (x ∷ l) same = rw (same x (Memᴰ.head refl), count_same f g l (λ y i. same y (Memᴰ.tail i))) refl

module _ (v : View) (r : Received) where
  -- how many of those heard have a frame of kind k with bit b
  abbrev bit_count : ℕ → ℕ → ℕ
  bit_count k b = count_if (λ s. eqb (bit_of k (r.from s)) b) r.heard

  count_says : (k b : ℕ) → b < 2 → count (says k b) r ≡ bit_count k b
  count_says k b h = count_same _ _ r.heard (λ s i. says_bit k b (r.from s) h)

  value_two_thirds_is : (b : ℕ) → b < 2 → (value_two_thirds r b ≡ true) ↔ TwoThirds (bit_count 3 b) (length r.heard)
  unfolding value_two_thirds
  value_two_thirds_is b h = rw (count_says 3 b h) (two_thirds_is _ _)

  proposal_third_is : (b : ℕ) → b < 2 → (proposal_third r b ≡ true) ↔ Third (bit_count 4 b) (length r.heard)
  unfolding proposal_third
  proposal_third_is b h = rw (count_says 4 b h) (third_is _ _)

  proposal_two_thirds_is : (b : ℕ) → b < 2 → (proposal_two_thirds r b ≡ true) ↔ TwoThirds (bit_count 4 b) (length r.heard)
  unfolding proposal_two_thirds
  proposal_two_thirds_is b h = rw (count_says 4 b h) (two_thirds_is _ _)

  -- making round 4 + 3r: the bit proposed is the one whose values reach two thirds
  proposal_is : (b : ℕ) → b < 2 → (value_two_thirds r 0 ≡ true → value_two_thirds r 1 ≡ true → ⊥) → (proposal r ≡ b) ↔ (value_two_thirds r b ≡ true)
  unfolding proposal
  proposal_is zero h apart = pick (value_two_thirds r 0) (value_two_thirds r 1)
    where
      pick : (x y : Bool) → (◌≡◌ {A = ℕ} (cond x 0 (cond y 1 2)) 0) ↔ (x ≡ true)
      pick true y = (λ e. refl, λ t. refl)
      pick false true = (λ e. absurd (omega arith), λ t. absurd (true≢false (sym t)))
      pick false false = (λ e. absurd (omega arith), λ t. absurd (true≢false (sym t)))
  proposal_is (suc zero) h apart = pick (value_two_thirds r 0) (value_two_thirds r 1) apart
    where
      pick : (x y : Bool) → (x ≡ true → y ≡ true → ⊥) → (◌≡◌ {A = ℕ} (cond x 0 (cond y 1 2)) 1) ↔ (y ≡ true)
      pick true y apart = (λ e. absurd (omega arith), λ t. absurd (apart refl t))
      pick false true apart = (λ e. refl, λ t. refl)
      pick false false apart = (λ e. absurd (omega arith), λ t. absurd (true≢false (sym t)))
  proposal_is (suc (suc b)) h apart = absurd (omega arith)

  -- making round 5 + 3r
  bit_adopted_lem : (b c : ℕ) → undecided v ≡ true → b + c ≡ 1 → proposal_third r b ≡ true → proposal_third r c ≡ false → bit_adopted v r ≡ b
  unfolding bit_adopted
  bit_adopted_lem zero zero u e t f = absurd (omega arith)
  bit_adopted_lem zero (suc zero) u e t f = rw (u, t, f) refl
  bit_adopted_lem (suc zero) zero u e t f = rw (u, t, f) refl
  bit_adopted_lem zero (suc (suc c)) u e t f = absurd (omega arith)
  bit_adopted_lem (suc zero) (suc c) u e t f = absurd (omega arith)
  bit_adopted_lem (suc (suc b)) c u e t f = absurd (omega arith)

  bit_kept : proposal_third r 0 ≡ proposal_third r 1 → bit_adopted v r ≡ v.bit.own
  unfolding bit_adopted
  bit_kept e = rw e (pick (undecided v) (proposal_third r 1))
    where
      pick : (u t : Bool) → cond (u && t && not t) 0 (cond (u && t && not t) 1 v.bit.own) ≡ v.bit.own
      pick false t = refl
      pick true true = refl
      pick true false = refl

  strong_is : (eqb (strong_after v r) 1 ≡ true) ↔ (proposal_two_thirds r (bit_adopted v r) ≡ true)
  unfolding strong_after
  strong_is = pick (proposal_two_thirds r (bit_adopted v r))
    where
      pick : (t : Bool) → (eqb (cond t 1 0) 1 ≡ true) ↔ (t ≡ true)
      pick true = (λ e. refl, λ e. refl)
      pick false = (λ e. e, λ e. e)

  opinion_own : undecided v ≡ true → v.rotor.king ≡ v.own → opinion v r ≡ bit_adopted v r
  unfolding opinion
  opinion_own u e = rw (u, eq-eqb _ _ e) refl

  -- (a) of making round 3 + 3r
  bit_taken_lem : 0 < phase v → undecided v ≡ true → v.bit.strong ≡ 0 → king_opinion v r ≤ 1 → bit_taken v r ≡ king_opinion v r
  unfolding bit_taken
  bit_taken_lem later u weak bit = rw (lt-ltb _ _ later, u, eq-eqb _ _ weak, le-leb _ _ bit) refl

  bit_retained : (0 < phase v → undecided v ≡ true → v.bit.strong ≡ 0 → king_opinion v r ≤ 1 → ⊥) → bit_taken v r ≡ v.bit.own
  unfolding bit_taken
  bit_retained n = cond_holds (λ b. b ≡ v.bit.own) (ltb 0 (phase v) && undecided v && eqb v.bit.strong 0 && leb (king_opinion v r) 1)
      (λ t.
      let (t₃, bit) = (and-eq-true_iff (ltb 0 (phase v) && undecided v && eqb v.bit.strong 0) (leb (king_opinion v r) 1)).0 t in
      let (t₂, weak) = (and-eq-true_iff (ltb 0 (phase v) && undecided v) (eqb v.bit.strong 0)).0 t₃ in
      let (later, u) = (and-eq-true_iff (ltb 0 (phase v)) (undecided v)).0 t₂ in
      absurd (n (ltb-true _ _ later) u (eqb-true _ _ weak) (leb-true _ _ bit)))
      (λ t. refl)

  -- (c) of making round 3 + 3r
  decision_taken : decides_now v r ≡ true → decision_after v r ≡ bit_taken v r
  unfolding decision_after
  decision_taken d = rw d refl

-- ---- the bit instance

module _ (S : Steps) where
  open S use {correct, faulty, input, state, received}

  abbrev pub bits : BitInstance
  bits = record {
    value_from = λ p r s. bit_of 3 (had_from S p (value_round r) s);
    proposal_from = λ p r s. bit_of 4 (had_from S p (propose_round r) s);
    opinion_from = λ p r s. opinion_in (had_from S p (turn_round (suc r)) s);
    value = λ p r. (entering S p (suc r)).bit.own;
    proposal = λ p r. (state p (propose_round r)).bit.said;
    opinion = λ p r. (state p (turn_round (suc r))).bit.said;
    own = λ p r. (state p (turn_round (suc r))).bit.own;
    strong = λ p r. eqb (state p (turn_round (suc r))).bit.strong 1;
    decision = λ p r. (entering S p r).bit.decision;
  }

  module _ (K : StepRules S) where
    open K use {differ, begins, a_bit, sound}

    -- from a correct one at work p has the bit that it said
    bit_received : {p s t : ℕ} (k : ℕ) → AtWork S p t → AtWork S s t → kind_of t ≡ k → bit_of k (had_from S p t s) ≡ (state s t).bit.said
    bit_received {p} {s} {t} k w x kind =
        ap (bit_of k) (received_sent S K w x) ∙ bit_sent (state s t) k (sound s t x) x.active (ap kind_of (K.round s t x) ∙ kind)

    -- from one gone quiet the bit that p itself said, but for an opinion
    bit_stood_in : {p s t : ℕ} (k : ℕ) → AtWork S p t → In s correct → undecided (state s t) ≡ false → kind_of t ≡ k → k ≢ 5
        → bit_of k (had_from S p t s) ≡ (state p t).bit.said
    bit_stood_in {p} {s} {t} k w j d kind other =
        ap (bit_of k) (received_quiet S K w j d) ∙ bit_stands_in (state p t) k (sound p t w) w.active (ap kind_of (K.round p t w) ∙ kind) other

    -- a value is the own bit
    value_said_lem : {p r : ℕ} → Works (rotation S) p (suc r) → (state p (value_round r)).bit.said ≡ bits.value p r
    value_said_lem {p} {r} w =
        let x = work_value S K w in
        (sound p _ x).said_value x.active (ap kind_of (K.round p _ x) ∙ kind_value r)

    module _ {p s r : ℕ} (w : Works (rotation S) p (suc r)) where
      module _ (x : Works (rotation S) s (suc r)) where
        value_received : bits.value_from p r s ≡ bits.value s r
        value_received = bit_received 3 (work_value S K w) (work_value S K x) (kind_value r) ∙ value_said_lem x

        proposal_received : bits.proposal_from p r s ≡ bits.proposal s r
        proposal_received = bit_received 4 (work_propose S K w) (work_propose S K x) (kind_propose r)

        opinion_received : bits.opinion_from p r s ≡ bits.opinion s r
        opinion_received = opinion_bit (had_from S p (turn_round (suc r)) s) ∙ bit_received 5 (work_turn S K w) (work_turn S K x) (kind_turn r)

      module _ (j : In s correct) (d : undecided (entering S s (suc r)) ≡ false) where
        value_stood_in : bits.value_from p r s ≡ bits.value p r
        value_stood_in = bit_stood_in 3 (work_value S K w) j d (kind_value r) (λ e. absurd (omega arith)) ∙ value_said_lem w

        proposal_stood_in : bits.proposal_from p r s ≡ bits.proposal p r
        proposal_stood_in =
            let quiet = ap (λ v. undecided v) (rests_propose S K j w.timely d) ∙ d in
            bit_stood_in 4 (work_propose S K w) j quiet (kind_propose r) (λ e. absurd (omega arith))

    -- ---- (a) and (c) of making round 3 + 3r

    module _ {p r : ℕ} (w : Works (rotation S) p r) where
      abbrev v : View
      v = state p (turn_round r)

      abbrev got : Received
      got = received p (turn_round r)

      value_made : (entering S p (suc r)).bit.own ≡ bit_taken v got
      value_made = ap (λ w. w.bit.own) (made_value S K w)

      decision_own_here : undecided (entering S p (suc r)) ≡ false → (entering S p (suc r)).bit.decision ≡ (entering S p (suc r)).bit.own
      decision_own_here d =
          let now : not (decides_now v got) ≡ false =
          sym (ap (λ t. t && not (decides_now v got)) (work_turn S K w).active) ∙ sym (undecided_after S K w) ∙ d in
          ap (λ w. w.bit.decision) (made_value S K w) ∙ decision_taken v got (not-false _ now) ∙ sym value_made

    -- ---- making rounds 4 + 3r and 5 + 3r, and (a) of making the next

    module _ {p r : ℕ} (w : Works (rotation S) p (suc r)) where
      abbrev valued : View
      valued = state p (value_round r)

      abbrev values_got : Received
      values_got = received p (value_round r)

      abbrev proposed : View
      proposed = state p (propose_round r)

      abbrev proposals_got : Received
      proposals_got = received p (propose_round r)

      abbrev turned : View
      turned = state p (turn_round (suc r))

      abbrev turns_got : Received
      turns_got = received p (turn_round (suc r))

      good : Sound turned
      good = sound p (turn_round (suc r)) (work_turn S K w)

      -- ---- what is proposed

      value_counted : {b : ℕ} → b < 2 → (value_two_thirds values_got b ≡ true) ↔ ValueTwoThirds (rotation S) bits p r b
      value_counted bit = value_two_thirds_is valued values_got _ bit

      values_apart : value_two_thirds values_got 0 ≡ true → value_two_thirds values_got 1 ≡ true → ⊥
      values_apart x y =
          let heard = heard_in_round S K (work_value S K w) in
          two_thirds_apart differ (few_faulty S K) (values (rotation S) bits p r 0) (values (rotation S) bits p r 1) heard heard
          (λ s j t. ne_eqb (bits.value_from p r s) 1 (λ e. absurd (omega (arith, eqb-true (bits.value_from p r s) 0 t))))
          ((value_counted (omega arith)).0 x)
          ((value_counted (omega arith)).0 y)

      proposed_here : {b : ℕ} → b < 2 → (proposed.bit.said ≡ b) ↔ ValueTwoThirds (rotation S) bits p r b
      proposed_here {b} bit =
          let made : proposed.bit.said ≡ proposal values_got = ap (λ w. w.bit.said) (made_propose S K w) in
          let law = proposal_is valued values_got b bit values_apart in
          (λ e. (value_counted bit).0 (law.0 (sym made ∙ e)), λ t. made ∙ law.1 ((value_counted bit).1 t))

      -- ---- the own bit, strong, the opinion

      third_counted : {b : ℕ} → b < 2 → (proposal_third proposals_got b ≡ true) ↔ ProposalThird (rotation S) bits p r b
      third_counted bit = proposal_third_is proposed proposals_got _ bit

      own_made : turned.bit.own ≡ bit_adopted proposed proposals_got
      own_made = ap (λ w. w.bit.own) (made_turn S K w)

      value_kept : proposed.bit.own ≡ (entering S p (suc r)).bit.own
      value_kept = ap (λ w. w.bit.own) (made_propose S K w)

      adopted_here : (b c : ℕ) → b + c ≡ 1 → ProposalThird (rotation S) bits p r b
          → (¬ ProposalThird (rotation S) bits p r c) → turned.bit.own ≡ b
      adopted_here b c e third other =
          own_made
          ∙ bit_adopted_lem proposed proposals_got b c (work_propose S K w).active e ((third_counted (omega arith)).1 third)
          (iff_false _ (third_counted (omega arith)) other)

      kept_here : (ProposalThird (rotation S) bits p r 0 ↔ ProposalThird (rotation S) bits p r 1) → turned.bit.own ≡ (entering S p (suc r)).bit.own
      kept_here law =
          let zero_is = third_counted {b = 0} (omega arith) in
          let one-is = third_counted {b = 1} (omega arith) in
          own_made
          ∙ bit_kept proposed proposals_got (iff_same _ _ (λ t. one-is.1 (law.0 (zero_is.0 t)), λ t. zero_is.1 (law.1 (one-is.0 t))))
          ∙ value_kept

      strengthened_here : (eqb turned.bit.strong 1 ≡ true) ↔ ProposalTwoThirds (rotation S) bits p r turned.bit.own
      strengthened_here =
          let made : turned.bit.strong ≡ strong_after proposed proposals_got = ap (λ w. w.bit.strong) (made_turn S K w) in
          let law = strong_is proposed proposals_got in
          let counted = proposal_two_thirds_is proposed proposals_got turned.bit.own (omega (arith, good.bit)) in
          let same = ap (proposal_two_thirds proposals_got) own_made in (
            λ t. counted.0 (same ∙ law.0 (ap (λ b. eqb b 1) (sym made) ∙ t)),
            λ c. ap (λ b. eqb b 1) made ∙ law.1 (sym same ∙ counted.1 c),
          )

      opined_here : (entering S p (suc r)).rotor.king ≡ p → turned.bit.said ≡ turned.bit.own
      opined_here king =
          let made : turned.bit.said ≡ opinion proposed proposals_got = ap (λ w. w.bit.said) (made_turn S K w) in
          let named : proposed.rotor.king ≡ p = ap (λ w. w.rotor.king) (made_propose S K w) ∙ king in
          let x = work_propose S K w in
          made ∙ opinion_own proposed proposals_got x.active (named ∙ sym (K.own p _ x)) ∙ sym own_made

      -- ---- the next value

      opinion_had : king_opinion turned turns_got ≡ bits.opinion_from p r (entering S p (suc r)).rotor.king
      opinion_had = ap (bits.opinion_from p r) (before_same S K (λ w. w.rotor.king) (λ w m. refl) (λ w m. refl) (suc r) w)

      taken_here : eqb turned.bit.strong 1 ≡ false
          → bits.opinion_from p r (entering S p (suc r)).rotor.king < 2
          → (entering S p (suc (suc r))).bit.own ≡ bits.opinion_from p r (entering S p (suc r)).rotor.king
      taken_here t bit =
          let weak : turned.bit.strong ≡ 0 = omega (arith, eqb-false turned.bit.strong 1 t, good.strong) in
          value_made w
          ∙ bit_taken_lem turned turns_got (omega (arith, phase_here S K w)) (work_turn S K w).active weak (omega (arith, opinion_had))
          ∙ opinion_had

      retained_here : (eqb turned.bit.strong 1 ≡ true) ⊎ (2 ≤ bits.opinion_from p r (entering S p (suc r)).rotor.king)
          → (entering S p (suc (suc r))).bit.own ≡ turned.bit.own
      retained_here c = value_made w ∙ bit_retained turned turns_got (λ later u weak bit. elim c [
        | inl t ↦ absurd (omega (arith, eqb-true turned.bit.strong 1 t))
        | inr two ↦ absurd (omega (arith, opinion_had))
      ])

    -- everybody works the first turn
    works_first : {p : ℕ} → In p correct → Works (rotation S) p 0
    works_first {p} i = works_alive S K i zero-le (ap (λ v. undecided v) (made_roster S K i) ∙ ap (λ v. undecided v) (begins p i))

    pub first_value : {p : ℕ} → In p correct → (entering S p 1).bit.own ≡ input p
    first_value {p} i =
        let w = works_first i in
        value_made w
        ∙ bit_retained (state p 2) _ (λ later u weak bit. absurd (omega (arith, phase_here S K w)))
        ∙ ap (λ v. v.bit.own) (made_roster S K i)
        ∙ ap (λ v. v.bit.own) (begins p i)

    -- nobody at work has decided
    at_work : {p r : ℕ} → Works (rotation S) p r → not (undecided (entering S p r)) ≡ true → ⊥
    at_work w d = true≢false (sym w.alive ∙ not-true _ d)

    pub bit_rules : BitRules (rotation S) bits
    bit_rules = record {
      value_of = λ w j t. value_received w (works_alive S K j w.timely t);
      value_own = λ w j d. value_stood_in w j d;
      proposal_of = λ w j t. proposal_received w (works_alive S K j w.timely t);
      proposal_own = λ w j d. proposal_stood_in w j d;
      opinion_of = λ w j t. opinion_received w (works_alive S K j w.timely t);
      brought = λ {p} i. omega (arith, first_value i, a_bit p i);
      proposed = λ w. proposed_here w;
      adopted = λ b c w d. adopted_here w b c;
      kept = λ w d. kept_here w;
      fixed = λ w d. absurd (at_work w d);
      strengthened = λ w. strengthened_here w;
      opined = λ w j d. opined_here w;
      taken = λ w d. taken_here w;
      retained = λ w c. elim c [ inl d ↦ absurd (at_work w d) | inr e ↦ retained_here w e ];
      decision_own = λ w d e. decision_own_here w (not-true _ e);
      decision_held = λ i h d. ap (λ v. v.bit.decision) (rests_phase S K i h (not-true _ d));
    }
