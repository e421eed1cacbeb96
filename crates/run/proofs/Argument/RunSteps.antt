-- A run is steps of the published rules: by recursion on the round each proper controller has decided, or has a state of it, works a tray of it that keeps
-- the line's guarantee, and what others read under its number is the frame that it wrote.
--     steps r                the run r as steps
--     Held c t               c has a state of round t, or has decided before
--     RoundCall r c t        the call in which c worked its tray of round t
use Rattle.std.specs.Prelude.{ℕ, zero, suc, ◌+◌, ◌-◌, ◌*◌, ◌≤◌, true, false, cond, List, [], ◌⊎◌, ◌≢◌, ◌≡◌, refl, length}
use Rattle.std.proofs.Common.{true≢false, inl, inr, sym, ap, ap₂, ◌∙◌, subst, arith, eqb-true, eq-eqb}
use mathlib.Core.List.Memᴰ
use Rattle.std.specs.Prelude.{Some}
use Rattle.std.proofs.Math.Decide.{ℕ_discrete}
use Rattle.controller.specs.Bytes.{Entry, entries, content, frame_bytes, one, under, under_one}
use Rattle.controller.specs.Lists.{In}
use Rattle.controller.specs.State.{View, view, undecided, start_view}
use Rattle.controller.specs.Received.{frame_of, senders, read_in, receive}
use Rattle.controller.specs.Rules.{step}
use Rattle.controller.specs.Calls.{sent_bytes}
use Rattle.controller.specs.Laws.Lists.{true_or_false, no_repeats_left}
use Rattle.controller.specs.Laws.State.{Sound, sound_gives}
use Rattle.controller.specs.Laws.Received.{heard_in_lem, heard_rising, received_own, received_other, received_silent, own_frame_reads}
use Rattle.controller.specs.Laws.Rules.{step_heard}
use Rattle.controller.specs.declared.state.State.{State}
use Rattle.run.specs.Run.{Member, TrayCall, Accepted, Controller, states, Sent, numbers, everyone, Delivers, Run}
use Rattle.run.proofs.Argument.Steps.{Steps, Reception, Timely, AtWork, StepRules}
use Rattle.run.proofs.Argument.StepsLaws.{timely_holds}
use Rattle.run.proofs.Argument.Held.{lookup, lookup_finds, numbered, nobody, nothing, state_in, received_of, AtRound, at_most, of_round}
use Rattle.run.proofs.Argument.Held.{state_in_lem, received_of_lem, sent_one, number_of, number_one}
use Rattle.run.proofs.Argument.Calls.{makes_view, received_with, made_by, accepted_fits, accepted_makes}
use Rattle.run.proofs.Argument.Calls.{accepted_round, start_returns, start_round, start_bit, start_listed}
use Rattle.run.proofs.Argument.Calls.{given_listed, returned_listed, state_own, state_sent}

module _ (r : Run) where
  open r use {correct, faulty}

  abbrev pub size : ℕ
  size = length (everyone correct faulty)

  abbrev pub steps : Steps
  steps =
      record {
        correct = numbers correct;
        faulty = faulty;
        input = λ p. lookup (numbered p) (λ (c : Controller). c.start.bit) 0 correct;
        state = λ p t. lookup (numbered p) (state_in t) nobody correct;
        received = λ p t. lookup (numbered p) (received_of t) nothing correct;
      }

  -- what is looked up by a proper one's number is that one's
  by_number : {B : Type 0} (g : Controller → B) (d : B) (c : Controller) → Member c correct → lookup (numbered c.number) g d correct ≡ g c
  by_number g d c i = lookup_finds (numbered c.number) g d correct i (eq-eqb c.number c.number refl)
      (λ y j t. ap g (number_one correct (no_repeats_left (numbers correct) faulty r.network.differ) y c j i (eqb-true _ _ t)))

  -- a proper one's number
  pub correct_number : {c : Controller} → Member c correct → In c.number (numbers correct)
  correct_number i = Memᴰ.map number_of i

  -- ---- round by round

  pub record RoundCall (c : Controller) (t : ℕ) : Type 0 where
    pub call : TrayCall
    pub listed : Member call c.trays
    pub accepted : Accepted call
    pub delivers : Delivers correct faulty c.number t call.tray
    pub round : call.state.round ≡ t

  call_at_state : {c : Controller} → Member c correct → (t : ℕ) → t ≤ 2 + 3 * size → (s : State) → Member s (states c) → s.round ≡ t
      → undecided (view s) ≡ true → RoundCall c t
  call_at_state {c} i t h s j e u =
      let w = r.network.works c i t h (sent_bytes (view s)) (subst (λ u. Sent c u (sent_bytes (view s))) e (state_sent c s j u)) in
      record {
        call = w.0;
        listed = w.1;
        accepted = w.2;
        delivers = w.3;
        round = sym (accepted_fits w.0 w.2).round ∙ w.3.round;
      }

  -- each has a state of each round, or has decided
  pub record Held (c : Controller) (t : ℕ) : Type 0 where
    pub held : State
    pub listed : Member held (states c)
    pub at : AtRound t held

  held_next : {c : Controller} → Member c correct → (t : ℕ) → t ≤ 2 + 3 * size → Held c (suc t)
  held_next {c} i zero h = record { held = c.start.answer.state; listed = start_listed c; at = inl (start_round c) }
  held_next {c} i (suc t) h =
      let before = held_next i t (omega arith) in
      elim (true_or_false (undecided (view before.held))) [
        | inl u ↦
            let now = call_at_state i (suc t) h before.held before.listed (of_round before.held before.at u) u in
            let k = now.call in
            record {
              held = k.answer.state;
              listed = returned_listed c now.listed;
              at = inl (accepted_round k now.accepted ∙ ap suc now.round);
            }
        | inr d ↦ record { held = before.held; listed = before.listed; at = inr (omega (arith, at_most before.held before.at), d) }
      ]

  pub state_held : {c : Controller} → Member c correct → (t : ℕ) → 1 ≤ t → t ≤ 3 + 3 * size → Held c t
  state_held {c} i t l h = subst (Held c) (omega arith) (held_next i (t - 1) (omega arith))

  -- ---- the steps are the controllers' own

  open steps use {input, state, received}

  pub input_at : {c : Controller} → Member c correct → input c.number ≡ c.start.bit
  input_at {c} i = by_number (λ (d : Controller). d.start.bit) 0 c i

  pub state_at : {c : Controller} → Member c correct → {t : ℕ} (s : State) → Member s (states c) → AtRound t s → state c.number t ≡ view s
  state_at {c} i {t} s j at = by_number (state_in t) nobody c i ∙ state_in_lem c s j at

  pub call_made : {c : Controller} → Member c correct → (t : ℕ) → AtWork steps c.number t → RoundCall c t
  call_made {c} i t w =
      let m = state_held i t w.timely.first (omega (arith, w.timely.last)) in
      let u = subst (λ v. undecided v ≡ true) (state_at i m.held m.listed m.at) w.active in
      call_at_state i t w.timely.last m.held m.listed (of_round m.held m.at u) u

  -- the state that the call of round t was handed over with, the one that it made, and its tray
  state_before_lem : {c : Controller} {t : ℕ} → Member c correct → (u : RoundCall c t) → state c.number t ≡ view u.call.state
  state_before_lem {c} i u = state_at i u.call.state (given_listed c u.listed) (inl u.round)

  state_after_lem : {c : Controller} {t : ℕ} → Member c correct → (u : RoundCall c t) → state c.number (suc t) ≡ made_by u.call
  state_after_lem {c} i u =
      let k = u.call in
      state_at i k.answer.state (returned_listed c u.listed) (inl (accepted_round k u.accepted ∙ ap suc u.round))
      ∙ makes_view (accepted_makes k u.accepted)

  received_at : {c : Controller} {t : ℕ} → Member c correct → (u : RoundCall c t) → received c.number t ≡ received_with u.call
  received_at {c} {t} i u = by_number (received_of t) nothing c i ∙ received_of_lem c u.call u.listed u.accepted u.round

  -- what holds of each proper controller, by its number
  pub each_number : (P : ℕ → Type 0) → ((c : Controller) → Member c correct → P c.number) → (p : ℕ) → In p (numbers correct) → P p
  each_number P f p i = let m = Memᴰ.of_map number_of correct i in subst P m.2 (f m.0 m.1)

  -- what holds where a proper controller is at work, by its number
  at_work : (P : ℕ → ℕ → Type 0) → ((c : Controller) (t : ℕ) → Member c correct → RoundCall c t → P c.number t) → (p t : ℕ) → AtWork steps p t → P p t
  at_work P f p t w = each_number (λ q. AtWork steps q t → P q t) (λ c i x. f c t i (call_made i t x)) p w.member w

  -- the state that it works its tray with: whose it is, of which round, and that it is sound
  pub record Own (p t : ℕ) : Type 0 where
    pub own : (state p t).own ≡ p
    pub round : (state p t).round ≡ t
    pub sound : Sound (state p t)

  own_at : (p t : ℕ) → AtWork steps p t → Own p t
  own_at = at_work Own
      (λ c t i u.
      let s = u.call.state in
      let at = sym (state_before_lem i u) in
      record {
        own = subst (λ (v : View). v.own ≡ c.number) at (state_own c s (given_listed c u.listed));
        round = subst (λ (v : View). v.round ≡ t) at u.round;
        sound = subst Sound at (sound_gives s (accepted_fits u.call u.accepted).state);
      })

  follows : (p t : ℕ) → AtWork steps p t → state p (suc t) ≡ step (state p t) (received p t)
  follows = at_work (λ p t. state p (suc t) ≡ step (state p t) (received p t))
      (λ c t i u. state_after_lem i u ∙ sym (ap₂ step (state_before_lem i u) (received_at i u)))

  -- who has decided has that state in the next round too
  rests : (p t : ℕ) → In p (numbers correct) → Timely steps t → undecided (state p t) ≡ false → state p (suc t) ≡ state p t
  rests p t i h = each_number (λ q. undecided (state q t) ≡ false → state q (suc t) ≡ state q t)
      (λ c j d.
      let m = state_held j t h.first (omega (arith, h.last)) in
      let now = state_at j m.held m.listed m.at in
      let made = subst (λ v. undecided v ≡ false) now d in
      state_at j m.held m.listed (inr (omega (arith, at_most m.held m.at), made)) ∙ sym now) p i

  -- ---- a tray that keeps the guarantee

  module _ (p t : ℕ) (b : List ℕ) (d : Delivers correct faulty p t b) where
    -- an entry under a proper number is the frame of its state of that round
    entry_sent : {c : Controller} → Member c correct → (e : Entry) → Member e (entries b) → e.sender ≡ c.number
        → (undecided (state_in t c) ≡ true) × (e.bytes ≡ sent_bytes (state_in t c))
    entry_sent {c} i e j q = sent_one c (d.frames e j c i q)

    -- one that is at work has an entry
    sent_present : {c : Controller} → Member c correct → c.number ≢ p → AtWork steps c.number t → In c.number (senders (entries b))
    sent_present {c} i ne w =
        let k = call_made i t w in
        let s = k.call.state in
        let sent = state_sent c s (given_listed c k.listed) (accepted_fits k.call k.accepted).active in
        d.present c i ne (sent_bytes (view s)) (subst (λ u. Sent c u (sent_bytes (view s))) k.round sent)

    -- and under its number there is just the frame that it sent: all copies are equal
    one_frame : (q : ℕ) → AtWork steps q t → q ≢ p → under q (entries b) ≡ one (sent_bytes (state q t))
    one_frame q w = each_number (λ q. AtWork steps q t → q ≢ p → under q (entries b) ≡ one (sent_bytes (state q t)))
        (λ c i w ne.
        let f = Memᴰ.of_map (λ (e : Entry). e.sender) (entries b) (sent_present i ne w) in
        let mine = (entry_sent i f.0 f.1 f.2).1 in
        under_one c.number f.0 (entries b) f.1 f.2 (λ e j q. (entry_sent i e j q).1 ∙ sym mine)
        ∙ ap one (mine ∙ ap sent_bytes (sym (by_number (state_in t) nobody c i)))) q w.member w

    -- under the number of one that has gone quiet there is nothing
    no_entry : (q : ℕ) → In q (numbers correct) → undecided (state q t) ≡ false → ¬ In q (senders (entries b))
    no_entry = each_number (λ q. undecided (state q t) ≡ false → ¬ In q (senders (entries b)))
        (λ c i quiet m.
        let f = Memᴰ.of_map (λ (e : Entry). e.sender) (entries b) m in
        let active = (entry_sent i f.0 f.1 f.2).0 in
        true≢false (sym active ∙ sym (ap (λ v. undecided v) (by_number (state_in t) nobody c i)) ∙ quiet))

    -- everybody is heard with it, where those who have gone quiet were heard before
    heard_with : AtWork steps p t → ((q : ℕ) → In q (numbers correct) → undecided (state q t) ≡ false → In q (state p t).rotor.heard)
        → (q : ℕ) → In q (numbers correct) → In q (receive (state p t) (entries b)).heard
    heard_with w before =
        let v = state p t in
        let es = entries b in
        let me = own_at p t w in
        each_number (λ q. In q (receive v es).heard)
        (λ c i. elim (ℕ_discrete c.number p) [
          | yes e ↦ (heard_in_lem v es).1 (inr (Memᴰ.cast (e ∙ sym me.own) me.sound.hears_itself))
          | no ne ↦
              let j = correct_number i in
              elim (true_or_false (undecided (state c.number t))) [
                | inl u ↦ (heard_in_lem v es).1 (inl (sent_present i ne (record { member = j; timely = w.timely; active = u })))
                | inr quiet ↦ (heard_in_lem v es).1 (inr (before c.number j quiet))
              ]
        ])

  -- nobody has decided in round 1, whose tray brings everybody's init, so everybody is heard from then on
  begins : (p : ℕ) → In p (numbers correct) → state p 1 ≡ start_view p (input p)
  begins = each_number (λ p. state p 1 ≡ start_view p (input p))
      (λ c i. state_at i c.start.answer.state (start_listed c) (inl (start_round c)) ∙ makes_view (start_returns c)
      ∙ ap (start_view c.number) (sym (input_at i)))

  -- in each later round everybody is heard, and in the first nobody has decided
  abbrev AllHeard : ℕ → Type 0
  AllHeard t = (p q : ℕ) → In p (numbers correct) → In q (numbers correct) → (t ≡ 1) ⊎ In q (state p t).rotor.heard

  quiet_heard : {t : ℕ} → AllHeard t → (p : ℕ) → In p (numbers correct)
      → (q : ℕ) → In q (numbers correct) → undecided (state q t) ≡ false → In q (state p t).rotor.heard
  quiet_heard all p i q j quiet = elim (all p q i j) [
    | inl e ↦ absurd (true≢false (sym (ap (λ v. undecided v) (ap (state q) e ∙ begins q j)) ∙ quiet))
    | inr heard ↦ heard
  ]

  heard_next : (t : ℕ) → Timely steps t → AllHeard t → AllHeard (suc t)
  heard_next t h all p q i j = elim (true_or_false (undecided (state p t))) [
    | inl u ↦
        let w : AtWork steps p t = record { member = i; timely = h; active = u } in
        inr (at_work (λ p t. AllHeard t → In p (numbers correct) → AtWork steps p t → In q (state p (suc t)).rotor.heard)
        (λ c t k m all l x.
        let es = entries m.call.tray in
        let with-tray = heard_with c.number t m.call.tray m.delivers x (quiet_heard all c.number l) q j in
        rw (state_after_lem k m, step_heard (view m.call.state) (received_with m.call))
        (subst (λ v. In q (receive v es).heard) (state_before_lem k m) with-tray)) p t w all i w)
    | inr d ↦ inr (subst (λ v. In q v.rotor.heard) (sym (rests p t i h d)) (elim (all p q i j) [
      | inl e ↦ absurd (true≢false (sym (ap (λ v. undecided v) (ap (state p) e ∙ begins p i)) ∙ d))
      | inr heard ↦ heard
    ]))
  ]

  all_heard : (t : ℕ) → Timely steps t → AllHeard t
  all_heard = timely_holds steps AllHeard (λ p q i j. inl refl) heard_next

  pub delivers_reception : (p t : ℕ) → AtWork steps p t → (b : List ℕ) → Delivers correct faulty p t b
      → Reception steps p t (receive (state p t) (entries b))
  delivers_reception p t w b d =
      let v = state p t in
      let es = entries b in
      let me = own_at p t w in
      let before = quiet_heard (all_heard t w.timely) p w.member in
      record {
        rises = heard_rising v es me.sound.heard.rises;
        others = λ x j. elim ((heard_in_lem v es).0 j) [ inl sent ↦ inr (d.others x sent).0 | inr before ↦ inl before ];
        present = heard_with p t b d w before;
        frames = λ q j u. elim (ℕ_discrete q p) [
          | yes e ↦ ap (receive v es).from (e ∙ sym me.own) ∙ received_own v es ∙ ap (λ s. Some (frame_of (state s t))) (sym e)
          | no ne ↦
              let x : AtWork steps q t = record { member = j; timely = w.timely; active = u } in
              let you = own_at q t x in
              let there = one_frame p t b d q x ne in
              received_other v es q (λ e. ne (e ∙ me.own)) (rw there)
              ∙ ap (λ u. read_in u (under q es)) (me.round ∙ sym you.round)
              ∙ ap (read_in (state q t).round) there
              ∙ ap (λ b. content b (state q t).round) (ap (λ a. cond a (frame_bytes (frame_of (state q t))) []) u)
              ∙ own_frame_reads (state q t) you.sound u
        ];
        quiet = λ q j quiet.
            let other : q ≢ v.own = λ e. true≢false (sym w.active ∙ ap (λ s. undecided (state s t)) (sym (e ∙ me.own)) ∙ quiet) in
            received_silent v es q other (before q j quiet) (no_entry p t b d q j quiet);
      }

  receives : (p t : ℕ) → AtWork steps p t → Reception steps p t (received p t)
  receives p t w = at_work (λ p t. AtWork steps p t → Reception steps p t (received p t))
      (λ c t i u x.
      let same : receive (state c.number t) (entries u.call.tray) ≡ received c.number t =
      ap (λ v. receive v (entries u.call.tray)) (state_before_lem i u) ∙ sym (received_at i u) in
      subst (Reception steps c.number t) same (delivers_reception c.number t x u.call.tray u.delivers)) p t w w

  pub step_rules : StepRules steps
  step_rules =
      record {
        differ = r.network.differ;
        nonzero = r.network.nonzero;
        few = r.few;
        begins = begins;
        a_bit = each_number (λ p. input p ≤ 1) (λ c i. rw (input_at i) (start_bit c));
        own = λ p t w. (own_at p t w).own;
        round = λ p t w. (own_at p t w).round;
        sound = λ p t w. (own_at p t w).sound;
        receives = receives;
        follows = follows;
        rests = rests;
      }
