-- Laws of one step: which bullet makes which round, each field of the next state, and that a step that is not refused keeps soundness.
use Rattle.std.specs.Prelude.{ℕ, ◌+◌, ◌*◌, ◌-◌, ◌/◌, ◌%◌, ◌<◌, ◌≤◌, Bool, true, false, cond, ◌&&◌, List, ◌≡◌, refl, leb, ltb}
use Rattle.std.proofs.Math.Bool.{not, and-false, and-eq-true_iff}
use Rattle.std.proofs.Common.{true≢false, sym, ap, ◌∙◌, arith, leb-true, le-leb, ne_eqb}
use mathlib.Core.List.Memᴰ
use Rattle.std.proofs.Math.Logic.{inl, inr}
use Rattle.std.specs.Prelude.{Some}
use Rattle.std.proofs.Math.Decide.{ℕ_discrete}
use Rattle.std.proofs.Math.Dec.{eqb}
use Rattle.std.proofs.Math.ListN.{length}
use Rattle.wire.specs.Frame.{kind_of, bit_fits}
use Rattle.wire.specs.Limits.{max_numbers, last_round}
use Rattle.wire.specs.Found.{under}
use Rattle.wire.specs.Tray.{Entry}
use Rattle.controller.specs.Lists.{In, Inside, Rising, mem}
use Rattle.controller.specs.State.{View, undecided}
use Rattle.controller.specs.Received.{Received, frame_of, stand_in, senders, read_in, silent, receive, lists}
use Rattle.controller.specs.Rotation.{echoed, joined, candidates_after, decides, king_after, hearing}
use Rattle.controller.specs.Bit.{phase, king_opinion, bit_taken, decides_now, decision_after, value_two_thirds, proposal_third}
use Rattle.controller.specs.Bit.{proposal_two_thirds, proposal, bit_adopted, strong_after, opinion, value_said}
use Rattle.controller.specs.Rules.{make_roster, make_value, make_propose, make_turn, step, next}
use Rattle.controller.specs.Laws.Lists.{true_or_false, in_mem, out_mem, in_or_not, insert_all_known}
use Rattle.controller.specs.Laws.State.{SoundList, Sound}
use Rattle.controller.specs.Laws.Received.{heard_in_lem, heard_rising, under_entry, received_positive}
use Rattle.controller.specs.Laws.Rotation.{Positive, roster_in, roster_rising, echoed_rising, echoed_positive, candidates_rising, candidates_positive}

-- ---- which bullet makes which round

-- the kind of each round but the first two
pub kind_later : (t k : ℕ) → 3 ≤ t → t % 3 ≡ k → kind_of t ≡ 3 + k
unfolding kind_of
kind_later t k l e = rw (ne_eqb t 1 (λ q. omega arith), ne_eqb t 2 (λ q. omega arith), e)

-- no round but the first has kind 1
pub kind_above : (t : ℕ) → 2 ≤ t → 2 ≤ kind_of t
unfolding kind_of
kind_above t l = rw (ne_eqb t 1 (λ q. omega arith)) (pick (eqb t 2))
  where
    pick : (a : Bool) → 2 ≤ cond a 2 (3 + t % 3)
    pick true = omega arith
    pick false = omega arith

-- round 2 alone has kind 2
pub kind_init : (t : ℕ) → 1 ≤ t → kind_of (t + 1) ≡ 2 → t ≡ 1
kind_init t l k = elim (ℕ_discrete t 1) [
  | yes e ↦ e
  | no d ↦ absurd (omega (arith, kind_later (t + 1) ((t + 1) % 3) (omega arith) refl))
]

-- a roster follows an init, a propose a value, and a turn a propose
pub kind_first : (t : ℕ) → 1 ≤ t → kind_of (t + 1) ≡ 2 → kind_of t ≡ 1
unfolding kind_of
kind_first t l k = rw (kind_init t l k)

pub kind_before : (t k : ℕ) → 1 ≤ t → kind_of (t + 1) ≡ 4 + k → kind_of t ≡ 3 + k
unfolding kind_of
kind_before t k l e = elim (ℕ_discrete t 1) [
  | yes o ↦ let two : kind_of (t + 1) ≡ 2 = rw o in absurd (omega arith)
  | no d ↦ let later : kind_of (t + 1) ≡ 3 + (t + 1) % 3 = kind_later (t + 1) ((t + 1) % 3) (omega arith) refl in kind_later t k (omega arith) (omega arith)
]

pub step_roster : (v : View) (r : Received) → v.round ≡ 1 → step v r ≡ make_roster v r
unfolding step kind_of
step_roster v r e = rw e

pub step_value : (v : View) (r : Received) (p : ℕ) → v.round ≡ 2 + 3 * p → step v r ≡ make_value v r
unfolding step
step_value v r p e = rw (kind_later (v.round + 1) 0 (omega arith) (omega arith))

pub step_propose : (v : View) (r : Received) (p : ℕ) → v.round ≡ 3 + 3 * p → step v r ≡ make_propose v r
unfolding step
step_propose v r p e = rw (kind_later (v.round + 1) 1 (omega arith) (omega arith))

pub step_turn : (v : View) (r : Received) (p : ℕ) → v.round ≡ 4 + 3 * p → step v r ≡ make_turn v r
unfolding step
step_turn v r p e = rw (kind_later (v.round + 1) 2 (omega arith) (omega arith))

-- the same, by the kind of the frame that is made
pub step_kind_roster : (v : View) (r : Received) → kind_of (v.round + 1) ≡ 2 → step v r ≡ make_roster v r
unfolding step
step_kind_roster v r e = rw e

pub step_kind_value : (v : View) (r : Received) → kind_of (v.round + 1) ≡ 3 → step v r ≡ make_value v r
unfolding step
step_kind_value v r e = rw e

pub step_kind_propose : (v : View) (r : Received) → kind_of (v.round + 1) ≡ 4 → step v r ≡ make_propose v r
unfolding step
step_kind_propose v r e = rw e

pub step_kind_turn : (v : View) (r : Received) → kind_of (v.round + 1) ≡ 5 → step v r ≡ make_turn v r
unfolding step
step_kind_turn v r e = rw e

pub phase_is : (v : View) (r : ℕ) → v.round ≡ 2 + 3 * r → phase v ≡ r
phase_is v r e = omega arith

-- the bullet for a state of round t
pub data Making (t : ℕ) : Type 0 where
  makes_roster : t ≡ 1 → Making t
  makes_value : (r : ℕ) → t ≡ 2 + 3 * r → Making t
  makes_propose : (r : ℕ) → t ≡ 3 + 3 * r → Making t
  makes_turn : (r : ℕ) → t ≡ 4 + 3 * r → Making t

pub making : (t : ℕ) → 1 ≤ t → Making t
making t l = elim (ℕ_discrete t 1) [
  | yes e ↦ makes_roster e
  | no d ↦ elim (ℕ_discrete (t % 3) 2) [
    | yes e ↦ makes_value (t / 3) (omega arith)
    | no d₂ ↦ elim (ℕ_discrete (t % 3) 0) [
      | yes e ↦ makes_propose (t / 3 - 1) (omega arith)
      | no d₃ ↦ makes_turn (t / 3 - 1) (omega arith)
    ]
  ]
]

-- what each bullet keeps, the step keeps
pub step_any : (P : View → Type 0) (v : View) (r : Received) → P (make_roster v r) → P (make_value v r) → P (make_propose v r) → P (make_turn v r)
    → P (step v r)
unfolding step
step_any P v r p₂ p₃ p₄ p₅ = pick (eqb (kind_of (v.round + 1)) 2) (eqb (kind_of (v.round + 1)) 3) (eqb (kind_of (v.round + 1)) 4)
  where
    pick : (a b c : Bool) → P (cond a (make_roster v r) (cond b (make_value v r) (cond c (make_propose v r) (make_turn v r))))
    pick true b c = p₂
    pick false true c = p₃
    pick false false true = p₄
    pick false false false = p₅

-- ---- what every step does

module _ (v : View) (r : Received) where
  pub step_own : (step v r).own ≡ v.own
  step_own = step_any (λ w. w.own ≡ v.own) v r refl refl refl refl

  pub step_round : (step v r).round ≡ v.round + 1
  step_round = step_any (λ w. w.round ≡ v.round + 1) v r refl refl refl refl

  pub step_heard : (step v r).rotor.heard ≡ r.heard
  step_heard = step_any (λ w. w.rotor.heard ≡ r.heard) v r refl refl refl refl

-- ---- the bits are in range

choice_bound : (t : Bool) (a b n : ℕ) → (t ≡ true → a ≤ n) → b ≤ n → cond t a b ≤ n
choice_bound true a b n l m = l refl
choice_bound false a b n l m = m

proposal_bound : (r : Received) → proposal r ≤ 2
unfolding proposal
proposal_bound r =
    choice_bound (value_two_thirds r 0) 0 _ 2 (λ t. omega arith) (choice_bound (value_two_thirds r 1) 1 2 2 (λ t. omega arith) (omega arith))

module _ (v : View) (r : Received) where
  strong_bound : strong_after v r ≤ 1
  unfolding strong_after
  strong_bound = choice_bound (proposal_two_thirds r (bit_adopted v r)) 1 0 1 (λ t. omega arith) (omega arith)

  module _ (bit : v.bit.own ≤ 1) where
    pub bit_taken_bound : bit_taken v r ≤ 1
    unfolding bit_taken
    bit_taken_bound =
        choice_bound _ (king_opinion v r) v.bit.own 1
        (λ t. leb-true (king_opinion v r) 1
        ((and-eq-true_iff (ltb 0 (phase v) && undecided v && eqb v.bit.strong 0) (leb (king_opinion v r) 1)).0 t).1) bit

    decision_bound : v.bit.decision ≤ 2 → decision_after v r ≤ 2
    unfolding decision_after
    decision_bound m = choice_bound (decides_now v r) (bit_taken v r) v.bit.decision 2 (λ t. omega (arith, bit_taken_bound)) m

    pub bit_adopted_bound : bit_adopted v r ≤ 1
    unfolding bit_adopted
    bit_adopted_bound =
        choice_bound (undecided v && proposal_third r 0 && not (proposal_third r 1)) 0 _ 1 (λ t. omega arith)
        (choice_bound (undecided v && proposal_third r 1 && not (proposal_third r 0)) 1 v.bit.own 1 (λ t. omega arith) bit)

    opinion_bound : opinion v r ≤ 2
    unfolding opinion
    opinion_bound =
        choice_bound (undecided v && eqb v.rotor.king v.own) (bit_adopted v r) 2 2 (λ t. omega (arith, bit_adopted_bound)) (omega arith)

-- ---- a step whose lists fit keeps soundness

-- init and roster say the same
said_first : (v : View) → Sound v → undecided v ≡ true → v.round ≡ 1 → bit_fits (kind_of (v.round + 1)) v.bit.said ≡ true
unfolding bit_fits kind_of
said_first v h u e = rw e (rw e at (h.said u))

-- a value says the own bit, but for one that decides, which says nothing
said_bit : (v : View) (r : Received) → undecided (step v r) ≡ true → kind_of (step v r).round ≡ 3 → (step v r).bit.said ≡ (step v r).bit.own
unfolding value_said
said_bit v r u e =
    let k : kind_of (v.round + 1) ≡ 3 = rw (step_round v r) at e in
    let active : undecided (make_value v r) ≡ true = rw (step_kind_value v r k) at u in
    rw (step_kind_value v r k, active)

-- only a value decides
said_quiet : (v : View) (r : Received) → undecided v ≡ true → undecided (step v r) ≡ false → (step v r).bit.said ≡ 2
unfolding value_said
said_quiet v r u = step_any (λ w. undecided w ≡ false → w.bit.said ≡ 2) v r no (λ q. rw q) no no
  where
    no : {n : ℕ} → undecided v ≡ false → n ≡ 2
    no q = absurd (true≢false (sym u ∙ q))

module _ (v : View) (r : Received) (h : Sound v) (u : undecided v ≡ true) where
  said_fits : undecided (step v r) ≡ true → bit_fits (kind_of (step v r).round) (step v r).bit.said ≡ true
  unfolding bit_fits value_said
  said_fits q = rw (step_round v r) (pick (making v.round h.early))
    where
      kind : (k : ℕ) → (v.round + 1) % 3 ≡ k → 2 ≤ v.round → kind_of (v.round + 1) ≡ 3 + k
      kind k e l = kind_later (v.round + 1) k (omega arith) e

      pick : Making v.round → bit_fits (kind_of (v.round + 1)) (step v r).bit.said ≡ true
      pick (makes_roster e) = rw (step_roster v r e) (said_first v h u e)
      pick (makes_value p e) =
          let active : undecided (make_value v r) ≡ true = rw (step_value v r p e) at q in
          rw (step_value v r p e, kind 0 (omega arith) (omega arith), active) (le-leb _ 1 (bit_taken_bound v r h.bit))
      pick (makes_propose p e) = rw (step_propose v r p e, kind 1 (omega arith) (omega arith)) (le-leb _ 2 (proposal_bound r))
      pick (makes_turn p e) = rw (step_turn v r p e, kind 2 (omega arith) (omega arith)) (le-leb _ 2 (opinion_bound v r h.bit))

  -- where those heard are a sound list with oneself among them, and the received lists have no 0
  pub step_sound : v.round < last_round → In v.own r.heard → SoundList r.heard → Positive (lists r)
      → length (step v r).rotor.candidates ≤ max_numbers → length (step v r).rotor.echoes ≤ max_numbers → Sound (step v r)
  step_sound l own heard lists-positive few_candidates few_echoes =
      let t : (step v r).round ≡ v.round + 1 = step_round v r in
      let candidates = h.candidates in
      let echoes = h.echoes in
      let c = v.rotor in
      record {
        early = omega arith;
        late = omega arith;
        numbered = rw (step_own v r) h.numbered;
        hears_itself = rw (step_own v r, step_heard v r) own;
        heard = rw (step_heard v r) heard;
        candidates = record {
          short = few_candidates;
          rises =
              step_any (λ w. Rising w.rotor.candidates) v r
              candidates.rises (candidates_rising c (lists r) candidates.rises) candidates.rises candidates.rises;
          positive =
              step_any (λ w. (x : ℕ) → In x w.rotor.candidates → 0 < x) v r
              candidates.positive (candidates_positive c (lists r) lists-positive candidates.positive) candidates.positive candidates.positive;
        };
        echoes = record {
          short = few_echoes;
          rises =
              step_any (λ w. Rising w.rotor.echoes) v r
              (roster_rising r heard.rises) (echoed_rising c (lists r)) echoes.rises echoes.rises;
          positive =
              step_any (λ w. (x : ℕ) → In x w.rotor.echoes → 0 < x) v r
              (λ x i. heard.positive x ((roster_in r).0 i).0) (echoed_positive c (lists r) lists-positive) echoes.positive echoes.positive;
        };
        said = said_fits;
        said_value = said_bit v r;
        quiet = said_quiet v r u;
        no_candidates = λ m. let e : v.round ≡ 1 = omega (arith, h.early) in rw (step_roster v r e) (h.no_candidates (omega arith));
        no_echoes = λ m. absurd (omega (arith, h.early));
        bit = step_any (λ w. w.bit.own ≤ 1) v r h.bit (bit_taken_bound v r h.bit) h.bit (bit_adopted_bound v r h.bit);
        strong = step_any (λ w. w.bit.strong ≤ 1) v r h.strong h.strong h.strong (strong_bound v r);
        decision =
            step_any (λ w. w.bit.decision ≤ 2) v r h.decision (decision_bound v r h.bit h.decision) h.decision h.decision;
      }

  -- making round 195 with at most 64 candidates leaves a decision
  pub last_round_decides : (step v r).round ≡ last_round → length (step v r).rotor.candidates ≤ max_numbers → undecided (step v r) ≡ false
  unfolding decision_after decides
  last_round_decides e l =
      let t : v.round ≡ 2 + 3 * 64 = omega (arith, step_round v r) in
      let after = candidates_after v.rotor (lists r) in
      let few : length after ≤ 64 = rw (step_value v r 64 t) at l in
      let bit = bit_taken_bound v r h.bit in
      rw (step_value v r 64 t) (elim (true_or_false (undecided v)) [
        | inl u ↦ rw (u, le-leb (length after) (phase v) (omega (arith, phase_is v 64 t))) (ne_eqb (bit_taken v r) 2 (λ q. omega arith))
        | inr u ↦ rw u u
      ])

-- ---- who is heard

-- senders that are all heard change nothing
pub heard_known : (v : View) (es : List Entry) → Rising v.rotor.heard → Inside (senders es) v.rotor.heard
    → (receive v es).heard ≡ v.rotor.heard
unfolding receive
heard_known v es up known = insert_all_known (senders es) v.rotor.heard up known

pub heard_sound : (v : View) (es : List Entry) → Sound v → (¬ In 0 (senders es)) → length (receive v es).heard ≤ max_numbers
    → SoundList (receive v es).heard
heard_sound v es h z short =
    record {
      short = short;
      rises = heard_rising v es h.heard.rises;
      positive = λ x i. elim ((heard_in_lem v es).0 i) [
        | inl j ↦ elim (ℕ_discrete x 0) [ yes e ↦ absurd (z (Memᴰ.cast (sym e) j)) | no d ↦ omega arith ]
        | inr j ↦ h.heard.positive x j
      ];
    }

pub next_sound : (v : View) (es : List Entry) → Sound v → undecided v ≡ true → v.round < last_round → (¬ In 0 (senders es))
    → length (receive v es).heard ≤ max_numbers
    → length (next v es).rotor.candidates ≤ max_numbers → length (next v es).rotor.echoes ≤ max_numbers → Sound (next v es)
next_sound v es h u l z few =
    step_sound v (receive v es) h u l ((heard_in_lem v es).1 (inr h.hears_itself)) (heard_sound v es h z few) (received_positive v es h u)

-- the state v with those heard that are heard with the tray
abbrev pub with_heard : View → List Entry → View
with_heard v es = record { own = v.own; round = v.round; rotor = hearing (receive v es).heard v.rotor; bit = v.bit }

-- it receives the same, and takes the same step
-- who is heard with the tray has an entry, so that just those heard before can be silent
silent_already_heard : (v : View) (es : List Entry) (x : ℕ) → silent (with_heard v es) es x ≡ silent v es x
silent_already_heard v es x = elim (in_or_not x (senders es)) [
  | inl i ↦ rw (under_entry x es i, and-false (mem x (receive v es).heard), and-false (mem x v.rotor.heard))
  | inr out ↦ elim (in_or_not x v.rotor.heard) [
    | inl i ↦ rw (in_mem ((heard_in_lem v es).1 (inr i)), in_mem i)
    | inr new ↦
        rw (out_mem {x = x} (receive v es).heard (λ i. elim ((heard_in_lem v es).0 i) [ inl j ↦ out j | inr j ↦ new j ]), out_mem v.rotor.heard new)
  ]
]

received_already_heard : (v : View) (es : List Entry) → Rising v.rotor.heard → receive (with_heard v es) es ≡ receive v es
unfolding receive frame_of stand_in
received_already_heard v es up =
    let heard = heard_known (with_heard v es) es (heard_rising v es up) (λ x i. (heard_in_lem v es).1 (inl i)) in
    λ i. record {
      heard = heard i;
      from = λ x.
          cond (eqb x v.own) (Some (frame_of v)) (cond (silent_already_heard v es x i) (Some (stand_in v)) (read_in v.round (under x es)));
    }

pub next_already_heard : (v : View) (es : List Entry) → Rising v.rotor.heard → next (with_heard v es) es ≡ next v es
unfolding step echoed joined candidates_after decides king_after bit_taken decision_after value_said bit_adopted strong_after opinion
next_already_heard v es up = ap (step v) (received_already_heard v es up)
