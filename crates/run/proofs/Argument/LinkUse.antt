-- Why a controller sends no more than so much: each call sends at most what its round allows, and no round is made twice.
--     figure         the limit is 18,192
--     up_to n t      what the longest frames of the rounds 1 to t come to
--     Bounded n c    an undecided state of the controller c is of a round up to 2 + 3n, and its list has at most n numbers
--     reached t u    what may have been sent in round t once round u is made
--     allowed s      what may have been sent in all once a call returns s: in the rounds up to that of s, or in all of them if s has decided
--     link_use       the theorem; run_link_use, of a controller in a run
use Rattle.std.specs.Prelude.{Bool, true, false, ◌≢◌, ◌≡◌, refl, eqb, leb, ltb, length}
use Rattle.std.proofs.Math.Bool.{cond}
use Rattle.std.proofs.Common.{true≢false, inl, inr, sym, ◌∙◌, eq-eqb, ne_eqb, le-leb, ℕ, zero, suc, ◌+◌, ◌*◌, ◌≤◌, List, [], ◌∷◌, map, arith}
use mathlib.Core.List.Memᴰ
use mathlib.Core.List.{sum}
use Rattle.std.proofs.Math.Path.{ap, subst}
use Rattle.std.proofs.Math.Decide.{ℕ_discrete, dec_le, le_ind}
use Rattle.std.proofs.Math.Nat.{suc-mul}
use Rattle.std.proofs.lemmas.Bool.{lt-leb}
use Rattle.controller.specs.Bytes.{frame_header, number_width, max_numbers, last_round, kind_of, max_count}
use Rattle.controller.specs.Calls.{sent_bytes}
use Rattle.controller.specs.State.{View, view, undecided}
use Rattle.controller.specs.Laws.Calls.{sent_nothing, sent_length}
use Rattle.controller.specs.Laws.Lists.{true_or_false}
use Rattle.controller.specs.Laws.Rules.{last_round_decides}
use Rattle.controller.specs.Laws.State.{sound_gives}
use Rattle.controller.specs.declared.state.Answer.{Answer}
use Rattle.controller.specs.declared.state.State.{State}
use Rattle.run.specs.LinkUse.{answered, bytes_sent, sent_in, bytes_in, longest, headers, full_lists, link_limit, LinkUse}
use Rattle.run.specs.Run.{Member, TrayCall, Accepted, HandedOn, Controller, states, Run}
use Rattle.run.proofs.Argument.Calls.{promise_keeps, promise_nothing, makes_view, makes_size, received_with, accepted_fits, accepted_makes, accepted_round}
use Rattle.run.proofs.Argument.Calls.{returned, holds_along, start_returns, start_round, start_undecided, start_listed, given_listed}
use Rattle.run.proofs.Argument.Calls.{returned_listed, state_sound, state_last, state_sent}
use Rattle.run.proofs.Argument.Agreement.{state_works}
use Rattle.run.proofs.Argument.Held.{at_most}
use Rattle.run.proofs.Argument.Protocol.{deadline, echoes_short}
use Rattle.run.proofs.Argument.StepsRotation.{turn_round, turn_round_is, kind_value, kind_propose, kind_turn}
use Rattle.run.proofs.Argument.RunSteps.{size, steps, state_held, state_at, correct_number, step_rules}

-- ---- the figure

pub figure : (suc (headers max_numbers) ≡ last_round) × (headers max_numbers ≡ 194) × (full_lists max_numbers ≡ 65) × (link_limit max_numbers ≡ 18192)
figure = (refl, refl, refl, refl)

-- ---- one frame

-- the list that is sent is the echoes
pub sent_longest : (v : View) → undecided v ≡ true → length (sent_bytes v) ≡ longest (length v.rotor.echoes) v.round
sent_longest v u = sent_length v u ∙ pick (ltb 0 (max_count (kind_of v.round)))
  where
    pick : (b : Bool) → frame_header + number_width * length (cond b v.rotor.echoes []) ≡ frame_header + number_width * cond b (length v.rotor.echoes) 0
    pick true = refl
    pick false = refl

longest_more : (t : ℕ) {m n : ℕ} → m ≤ n → longest m t ≤ longest n t
longest_more t {m} {n} h = pick (ltb 0 (max_count (kind_of t)))
  where
    pick : (b : Bool) → frame_header + number_width * cond b m 0 ≤ frame_header + number_width * cond b n 0
    pick true = omega arith
    pick false = omega arith

-- ---- round by round

module _ (n : ℕ) where
  abbrev pub up_to : ℕ → ℕ
  up_to zero = 0
  up_to (suc t) = up_to t + longest n (suc t)

  up_to_more : (s t : ℕ) → s ≤ t → up_to s ≤ up_to t
  up_to_more s t = le_ind (λ t. up_to s ≤ up_to t) (omega arith) (λ t l before. omega arith) t

  -- each phase adds a value, a propose and a turn
  phases_add : (r : ℕ) → up_to (turn_round r) ≡ headers r * frame_header + full_lists r * (n * number_width)
  unfolding kind_of max_count
  phases_add zero = omega arith
  phases_add (suc r) =
      let one_more : full_lists (suc r) ≡ suc (full_lists r) = omega arith in
      let more = suc-mul (full_lists r) (n * number_width) in
      rw (one_more, kind_value r, kind_propose r, kind_turn r) (omega (arith, phases_add r, more))

-- ---- call by call

-- a sum along the calls is at most what a measure of states comes to, if that grows with each call by as much as the call adds
sum_along : (w : Answer → ℕ) (used : State → ℕ) {most : ℕ} (s : State) (ks : List TrayCall) → HandedOn s ks
    → ((k : TrayCall) → Member k ks → w k.answer + used k.state ≤ used k.answer.state)
    → ((u : State) → Member u (s ∷ returned ks) → used u ≤ most)
    → sum ◌+◌ 0 (map w (answered ks)) + used s ≤ most
unfolding sum
sum_along w used s [] h grows top = omega (arith, top s (Memᴰ.head refl))
sum_along w used s (k ∷ ks) h grows top =
    let rest = sum_along w used k.answer.state ks h.1 (λ l i. grows l (Memᴰ.tail i)) (λ u i. top u (Memᴰ.tail i)) in
    omega (arith, rest, grows k (Memᴰ.head refl), ap used h.0)

abbrev Bounded : ℕ → Controller → Type 0
Bounded n c = (s : State) → Member s (states c) → undecided (view s) ≡ true → (s.round ≤ headers n) × (length (view s).rotor.echoes ≤ n)

cond_less : (b : Bool) (m : ℕ) → cond b m 0 ≤ m
cond_less true m = omega arith
cond_less false m = omega arith

module _ (n : ℕ) (c : Controller) (bounded : Bounded n c) where
  abbrev begun : State
  begun = c.start.answer.state

  sent_short : (s : State) → Member s (states c) → length (sent_bytes (view s)) ≤ longest n s.round
  sent_short s i = elim (true_or_false (undecided (view s))) [
    | inl u ↦ omega (arith, sent_longest (view s) u, longest_more s.round (bounded s i u).1)
    | inr d ↦ omega (arith, ap length (sent_nothing (view s) d))
  ]

  start_short : c.start.answer.length ≤ longest n 1
  start_short = subst (λ t. c.start.answer.length ≤ longest n t) (start_round c)
      (omega (arith, makes_size (start_returns c), sent_short begun (start_listed c)))

  call_short : (k : TrayCall) → Member k c.trays → Accepted k → k.answer.length ≤ longest n k.answer.state.round
  call_short k i w = omega (arith, makes_size (accepted_makes k w), sent_short k.answer.state (returned_listed c i))

  refused_nothing : (k : TrayCall) → k.answer.refusal ≢ 0 → k.answer.length ≡ 0
  refused_nothing k refused = (promise_nothing k.promise (λ w. absurd (refused w))).0

  -- ---- in a round

  abbrev reached : ℕ → ℕ → ℕ
  reached t u = cond (leb t u) (longest n t) 0

  round_reached : (t u size : ℕ) → size ≤ longest n (suc u) → cond (eqb (suc u) t) size 0 + reached t u ≤ reached t (suc u)
  round_reached t u size short = elim (ℕ_discrete (suc u) t) [
    | yes e ↦ rw (sym e, eq-eqb (suc u) (suc u) refl, lt-leb (suc u) u (omega arith), le-leb (suc u) (suc u) (omega arith)) (omega arith)
    | no d ↦ elim (dec_le t u) [
      | yes l ↦ rw (ne_eqb (suc u) t d, le-leb t u l, le-leb t (suc u) (omega arith)) (omega arith)
      | no l ↦ rw (ne_eqb (suc u) t d, lt-leb t u (omega arith)) (omega arith)
    ]
  ]

  call_reached : (t : ℕ) (k : TrayCall) → Member k c.trays
      → sent_in t k.answer + reached t k.state.round ≤ reached t k.answer.state.round
  call_reached t k i = elim (ℕ_discrete k.answer.refusal 0) [
    | yes w ↦
        let e = accepted_round k w in
        subst (λ u. cond (eqb u t) k.answer.length 0 + reached t k.state.round ≤ reached t u) (sym e)
        (round_reached t k.state.round k.answer.length (subst (λ u. k.answer.length ≤ longest n u) e (call_short k i w)))
    | no refused ↦
        let same = ap (λ (s : State). reached t s.round) (promise_keeps k.promise refused) in
        let nothing = cond_less (eqb k.answer.state.round t) k.answer.length in
        omega (arith, refused_nothing k refused, same, nothing)
  ]

  round_bytes : (t : ℕ) → bytes_in c t ≤ longest n t
  unfolding sum
  round_bytes t =
      let rest = sum_along (sent_in t) (λ s. reached t s.round) begun c.trays c.handed
      (call_reached t) (λ u i. cond_less (leb t u.round) (longest n t)) in
      let first = round_reached t 0 c.start.answer.length start_short in
      omega (arith, rest, subst (λ u. cond (eqb u t) c.start.answer.length 0 ≤ reached t u) (sym (start_round c)) (omega (arith, first)))

  -- ---- in all

  abbrev allowed : State → ℕ
  allowed s = cond (undecided (view s)) (up_to n s.round) (up_to n (headers n))

  allowed_most : (s : State) → Member s (states c) → allowed s ≤ up_to n (headers n)
  allowed_most s i = elim (true_or_false (undecided (view s))) [
    | inl u ↦ rw u (up_to_more n s.round (headers n) (bounded s i u).0)
    | inr d ↦ rw d (omega arith)
  ]

  -- what a call sends is what its state is allowed more than the one before
  call_allowed : (k : TrayCall) → Member k c.trays → k.answer.length + allowed k.state ≤ allowed k.answer.state
  call_allowed k i = elim (ℕ_discrete k.answer.refusal 0) [
    | yes w ↦
        let active = (accepted_fits k w).active in
        elim (true_or_false (undecided (view k.answer.state))) [
          | inl u ↦
              let short = subst (λ t. k.answer.length ≤ longest n t) (accepted_round k w) (call_short k i w) in
              rw (active, u, accepted_round k w) (omega (arith, short))
          | inr d ↦
              let before = allowed_most k.state (given_listed c i) in
              rw d (omega (arith, makes_size (accepted_makes k w), ap length (sent_nothing (view k.answer.state) d), before))
        ]
    | no refused ↦ rw (promise_keeps k.promise refused) (omega (arith, refused_nothing k refused))
  ]

  all_bytes : bytes_sent c ≤ link_limit n
  unfolding sum
  all_bytes =
      let rest = sum_along (λ (a : Answer). a.length) allowed begun c.trays c.handed call_allowed allowed_most in
      let first : c.start.answer.length ≤ allowed begun = rw (start_undecided c, start_round c) (omega (arith, start_short)) in
      omega (arith, rest, first, phases_add n n, ap (up_to n) (turn_round_is n))

  bounded_use : LinkUse n c
  bounded_use = record { rounds = round_bytes; total = all_bytes }

-- ---- any controller

-- making round 195 decides
round_bounded : (c : Controller) (s : State) → Member s (states c) → undecided (view s) ≡ true → s.round ≤ headers max_numbers
round_bounded c = holds_along (λ s. undecided (view s) ≡ true → s.round ≤ headers max_numbers) c.start.answer.state c.trays c.handed
    (λ u. omega (arith, start_round c))
    (λ k i w before u.
    let fits = accepted_fits k w in
    let made = makes_view (accepted_makes k w) in
    elim (ℕ_discrete k.answer.state.round last_round) [
      | yes e ↦
          let good = sound_gives k.state fits.state in
          let last = ap (λ (v : View). v.round) (sym made) ∙ e in
          let decides = last_round_decides (view k.state) (received_with k) good fits.active last fits.candidates in
          absurd (true≢false (sym u ∙ ap (λ (v : View). undecided v) made ∙ decides))
      | no d ↦ omega (arith, accepted_round k w, fits.early)
    ])

-- document 02's A13
pub link_use : (c : Controller) → LinkUse max_numbers c
link_use c = bounded_use max_numbers c (λ s i u. (round_bounded c s i u, (sound_gives s (state_sound c s i)).echoes.short))

-- ---- a controller in a run

module _ (r : Run) where
  -- nobody is undecided from round 3 + 3n on
  run_round_bounded : {c : Controller} → Member c r.correct → (s : State) → Member s (states c) → undecided (view s) ≡ true → s.round ≤ headers (size r)
  run_round_bounded {c} i s j u = elim (dec_le s.round (headers (size r))) [
    | yes early ↦ early
    | no late ↦
        let m = state_held r i (3 + 3 * size r) (omega arith) (omega arith) in
        let at = ap (λ v. undecided v) (state_at r i m.held m.listed m.at) in
        let decided = sym at ∙ deadline (steps r) (step_rules r) c.number (correct_number r i) in
        let last = state_last c m.held s m.listed j decided (omega (arith, at_most m.held m.at)) in
        absurd (true≢false (sym u ∙ ap (λ (v : State). undecided (view v)) last ∙ decided))
  ]

  pub run_link_use : (c : Controller) → Member c r.correct → LinkUse (size r) c
  run_link_use c i = bounded_use (size r) c (λ s j u.
      let early = run_round_bounded i s j u in
      let short = echoes_short (steps r) (step_rules r) c.number s.round (state_works r i s j early (state_sent c s j u)) in
      (early, subst (λ (v : View). length v.rotor.echoes ≤ size r) (state_at r i s j (inl refl)) short))
