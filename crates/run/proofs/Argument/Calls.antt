-- Laws of calls, from their promises alone: what a call that works gives, and what holds along a controller's list.
--     Returns v p a after      the answer a and the buffer `after` are those of a call that made the state v: its stored form, with the record whose
--                              places are p, and its frame in front
--     received_with k        what is received with a tray by the state it is handed over with
--     made_by k              the state that a tray makes of the state it is handed over with
--     returned ks            the states that the calls ks return
--     FirstDecided u s ks    the list of states split at the first with a decision
use Rattle.std.specs.Prelude.{ℕ, suc, ◌+◌, ◌*◌, ◌≤◌, ◌<◌, true, false, List, [], ◌∷◌, ◌++◌, map, ◌⊎◌, ◌≢◌, ◌≡◌, refl, eqb, length, take}
use Rattle.std.proofs.Common.{true≢false, inl, inr, sym, ap, ◌∙◌, subst, arith, eqb-true, eq-eqb, ne_eqb}
use mathlib.Core.List.Memᴰ
use Rattle.std.proofs.Math.Decide.{ℕ_discrete}
use Rattle.std.proofs.lemmas.Bool.{eqb-false}
use Rattle.std.proofs.Math.Seq.{take-append_seam}
use Rattle.controller.specs.Bytes.{max_frame, entries}
use Rattle.controller.specs.State.{View, view, undecided, sound, stored_state, start_view, start_rounds}
use Rattle.controller.specs.First.{rounds_after}
use Rattle.controller.specs.Received.{Received, receive}
use Rattle.controller.specs.Rules.{next}
use Rattle.controller.specs.Calls.{Promise, sent_bytes}
use Rattle.controller.specs.Laws.Calls.{sent_nothing, sent_something, sender_undecided}
use Rattle.controller.specs.Laws.First.{start_stays_sound, next_stays_sound}
use Rattle.controller.specs.Laws.Lists.{true_or_false}
use Rattle.controller.specs.Laws.Refusals.{Fits, start_accepted, tray_accepted}
use Rattle.controller.specs.Laws.Rules.{step_own, step_round}
use Rattle.controller.specs.Laws.State.{view_stored}
use Rattle.controller.specs.declared.state.State.{State}
use Rattle.controller.specs.declared.state.Answer.{Answer}
use Rattle.run.specs.Run.{Member, TrayCall, Accepted, HandedOn, Controller, state_after, states, Sent}
use Rattle.run.specs.Outcome.{Decides}

-- ---- one call

pub record Returns (v : View) (p : List ℕ) (a : Answer) (after : List ℕ) : Type 0 where
  pub state : a.state ≡ stored_state v p
  pub size : a.length ≡ length (sent_bytes v)
  pub frame : take a.length after ≡ sent_bytes v

promise_makes : {n : ℕ} {v : View} {p : List ℕ} {s : State} {before : List ℕ} {a : Answer} {after : List ℕ}
    → Promise n v p s before a after → a.refusal ≡ 0 → Returns v p a after
promise_makes {n} {v} h e =
    let t : eqb n 0 ≡ true = eq-eqb n 0 (sym h.number ∙ e) in
    record { state = rw t at h.state; size = rw t at h.written; frame = rw (h.written, h.output, t) (take-append_seam (sent_bytes v) _) }

pub promise_keeps : {n : ℕ} {v : View} {p : List ℕ} {s : State} {before : List ℕ} {a : Answer} {after : List ℕ}
    → Promise n v p s before a after → a.refusal ≢ 0 → a.state ≡ s
promise_keeps {n} h e = let t : eqb n 0 ≡ false = ne_eqb n 0 (λ z. e (h.number ∙ z)) in rw t at h.state

-- a call that is refused, or makes a state that has decided, writes nothing
pub promise_nothing : {n : ℕ} {v : View} {p : List ℕ} {s : State} {before : List ℕ} {a : Answer} {after : List ℕ}
    → Promise n v p s before a after → (a.refusal ≡ 0 → undecided v ≡ false) → (a.length ≡ 0) × (after ≡ before)
promise_nothing {n} {v} {a = a} h made = elim (ℕ_discrete a.refusal 0) [
  | yes e ↦
      let none = sent_nothing v (made e) in
      rw (h.written, h.output, eq-eqb n 0 (sym h.number ∙ e), none) (refl, refl)
  | no e ↦ rw (h.written, h.output, ne_eqb n 0 (λ z. e (h.number ∙ z))) (refl, refl)
]

pub makes_view : {v : View} {p : List ℕ} {a : Answer} {after : List ℕ} → Returns v p a after → view a.state ≡ v
makes_view {v} {p} m = ap view m.state ∙ view_stored v p

-- what a call wrote, up to the returned length, is the frame of the state that it returned
makes_sent : {v : View} {p : List ℕ} {a : Answer} {after : List ℕ} → Returns v p a after → take a.length after ≡ sent_bytes (view a.state)
makes_sent m = m.frame ∙ ap sent_bytes (sym (makes_view m))

-- and of as many bytes
pub makes_size : {v : View} {p : List ℕ} {a : Answer} {after : List ℕ} → Returns v p a after → a.length ≡ length (sent_bytes (view a.state))
makes_size m = m.size ∙ ap (λ (w : View). length (sent_bytes w)) (sym (makes_view m))

-- what it received
abbrev pub received_with : TrayCall → Received
received_with k = receive (view k.state) (entries k.tray)

abbrev pub made_by : TrayCall → View
made_by k = next (view k.state) (entries k.tray)

pub accepted_fits : (k : TrayCall) → Accepted k → Fits k.state k.tray
accepted_fits k w = (tray_accepted k.state k.tray (length k.before) (sym k.promise.number ∙ w)).0

pub accepted_makes : (k : TrayCall) → Accepted k → Returns (made_by k) (rounds_after k.state (entries k.tray)) k.answer k.after
accepted_makes k w = promise_makes k.promise w

-- worked calls raise the round by 1
pub accepted_round : (k : TrayCall) → Accepted k → k.answer.state.round ≡ suc k.state.round
accepted_round k w = let m = accepted_makes k w in rw m.state (omega (arith, step_round (view k.state) (received_with k)))

-- refused calls return the given state
pub accepted_or_kept : (k : TrayCall) → Accepted k ⊎ (k.answer.state ≡ k.state)
accepted_or_kept k = elim (true_or_false (eqb k.answer.refusal 0)) [
  | inl t ↦ inl (eqb-true _ _ t)
  | inr t ↦ inr (promise_keeps k.promise (eqb-false _ _ t))
]

-- ---- a list of calls

abbrev pub returned : List TrayCall → List State
returned ks = map (λ (k : TrayCall). k.answer.state) ks

-- what holds at first and is kept by each call that works holds all along: refused calls drop out
pub holds_along : (P : State → Type 0) (s : State) (ks : List TrayCall) → HandedOn s ks → P s
    → ((k : TrayCall) → Member k ks → Accepted k → P k.state → P k.answer.state)
    → (u : State) → Member u (s ∷ returned ks) → P u
holds_along P s [] h p step u i = elim (Memᴰ.cases_cons i) [ inl e ↦ subst P (sym e) p | inr j ↦ absurd (Memᴰ.not-nil j) ]
holds_along P s (k ∷ ks) h p step u i =
    let p' : P k.answer.state = elim (accepted_or_kept k) [
      | inl w ↦ step k (Memᴰ.head refl) w (subst P (sym h.0) p)
      | inr e ↦ subst P (sym (e ∙ h.0)) p
    ] in
    elim (Memᴰ.cases_cons i) [
      | inl e ↦ subst P (sym e) p
      | inr j ↦ holds_along P k.answer.state ks h.1 p' (λ l m. step l (Memᴰ.tail m)) u j
    ]

-- the state that a call is handed over with is one of the list
pub call_given : (s : State) (ks : List TrayCall) → HandedOn s ks → {k : TrayCall} → Member k ks → Member k.state (s ∷ returned ks)
call_given s [] h i = absurd (Memᴰ.not-nil i)
call_given s (l ∷ ks) h i = elim (Memᴰ.cases_cons i) [
  | inl e ↦ Memᴰ.head (ap (λ (k : TrayCall). k.state) e ∙ h.0)
  | inr j ↦ Memᴰ.tail (call_given l.answer.state ks h.1 j)
]

-- ---- a front part of a list

pub handed_front : (s : State) (ks ls : List TrayCall) → HandedOn s (ks ++ ls) → HandedOn s ks
handed_front s [] ls h = tt
handed_front s (k ∷ ks) ls h = (h.0, handed_front k.answer.state ks ls h.1)

pub handed_rest : (s : State) (ks ls : List TrayCall) → HandedOn s (ks ++ ls) → HandedOn (state_after s ks) ls
handed_rest s [] ls h = h
handed_rest s (k ∷ ks) ls h = handed_rest k.answer.state ks ls h.1

pub state_append : (s : State) (ks ls : List TrayCall) → state_after s (ks ++ ls) ≡ state_after (state_after s ks) ls
state_append s [] ls = refl
state_append s (k ∷ ks) ls = state_append k.answer.state ks ls

-- ---- rounds along the list

-- rounds never fall
round_later : (s : State) (ks : List TrayCall) → HandedOn s ks → (u : State) → Member u (s ∷ returned ks) → s.round ≤ u.round
round_later s ks h = holds_along (λ u. s.round ≤ u.round) s ks h (omega arith) (λ k i w l. omega (arith, accepted_round k w))

-- the first state, once left, does not come back
round_first : (s : State) (ks : List TrayCall) → HandedOn s ks → (u : State) → Member u (s ∷ returned ks) → u.round ≡ s.round → u ≡ s
round_first s ks h u i = (holds_along (λ u. (s.round ≤ u.round) × (u.round ≡ s.round → u ≡ s)) s ks h
    (omega arith, λ e. refl)
    (λ k i w l. (omega (arith, accepted_round k w, l.0), λ e. absurd (omega (arith, accepted_round k w, l.0)))) u i).1

-- nor does any other: a list has one state of each round
round_one : (s : State) (ks : List TrayCall) → HandedOn s ks → (u v : State) → Member u (s ∷ returned ks) → Member v (s ∷ returned ks)
    → u.round ≡ v.round → u ≡ v
round_one s [] h u v i j e = Memᴰ.eq_of_singleton i ∙ sym (Memᴰ.eq_of_singleton j)
round_one s (k ∷ ks) h u v i j e = elim (Memᴰ.cases_cons i) [
  | inl a ↦ a ∙ sym (round_first s (k ∷ ks) h v j (sym e ∙ ap (λ (x : State). x.round) a))
  | inr m ↦ elim (Memᴰ.cases_cons j) [
    | inl b ↦ round_first s (k ∷ ks) h u i (e ∙ ap (λ (x : State). x.round) b) ∙ sym b
    | inr n ↦ round_one k.answer.state ks h.1 u v m n e
  ]
]

-- calls behind one that works are handed states of higher rounds
accepted_before : (k l : TrayCall) (ks : List TrayCall) → HandedOn k.answer.state ks → Accepted k → Member l ks → k.state.round < l.state.round
accepted_before k l ks h w i = omega (arith, accepted_round k w, round_later k.answer.state ks h l.state (call_given k.answer.state ks h i))

-- so just one call works each round
accepted_one : (s : State) (ks : List TrayCall) → HandedOn s ks → (k l : TrayCall) → Member k ks → Member l ks → Accepted k → Accepted l
    → k.state.round ≡ l.state.round → k ≡ l
accepted_one s [] h k l i j w x e = absurd (Memᴰ.not-nil i)
accepted_one s (m ∷ ks) h k l i j w x e = elim (Memᴰ.cases_cons i) [
  | inl a ↦ elim (Memᴰ.cases_cons j) [
    | inl b ↦ a ∙ sym b
    | inr j' ↦ absurd (omega (arith, accepted_before k l ks (subst (λ (y : TrayCall). HandedOn y.answer.state ks) (sym a) h.1) w j'))
  ]
  | inr i' ↦ elim (Memᴰ.cases_cons j) [
    | inl b ↦ absurd (omega (arith, accepted_before l k ks (subst (λ (y : TrayCall). HandedOn y.answer.state ks) (sym b) h.1) x i'))
    | inr j' ↦ accepted_one m.answer.state ks h.1 k l i' j' w x e
  ]
]

-- ---- decisions along the list

-- a decided state works no tray
decided_refuses : (k : TrayCall) → undecided (view k.state) ≡ false → ¬ Accepted k
decided_refuses k d w = true≢false (sym (accepted_fits k w).active ∙ d)

-- so it stays, whatever the trays
pub decided_stays : (s : State) (ks : List TrayCall) → HandedOn s ks → undecided (view s) ≡ false → (u : State) → Member u (s ∷ returned ks) → u ≡ s
decided_stays s ks h d = holds_along (λ u. u ≡ s) s ks h refl
    (λ k i w e. absurd (decided_refuses k (ap (λ (u : State). undecided (view u)) e ∙ d) w))

-- no state of the list is of a later round than a decided one
decided_last : (s : State) (ks : List TrayCall) → HandedOn s ks → (u v : State) → Member u (s ∷ returned ks) → Member v (s ∷ returned ks)
    → undecided (view u) ≡ false → u.round ≤ v.round → v ≡ u
decided_last s [] h u v i j d l = Memᴰ.eq_of_singleton j ∙ sym (Memᴰ.eq_of_singleton i)
decided_last s (k ∷ ks) h u v i j d l = elim (Memᴰ.cases_cons i) [
  | inl a ↦ decided_stays s (k ∷ ks) h (ap (λ (x : State). undecided (view x)) (sym a) ∙ d) v j ∙ sym a
  | inr m ↦ elim (Memᴰ.cases_cons j) [
    | inl b ↦
        let rounds : u.round ≡ s.round = omega (arith, round_later s (k ∷ ks) h u i, ap (λ (x : State). x.round) b) in
        b ∙ sym (round_first s (k ∷ ks) h u i rounds)
    | inr n ↦ decided_last k.answer.state ks h.1 u v m n d l
  ]
]

-- the decided state u is that first one or stands behind it
record FirstDecided (u s : State) (ks : List TrayCall) : Type 0 where
  earlier : List State
  state : State
  calls : List TrayCall
  handed : HandedOn state calls
  split : s ∷ returned ks ≡ earlier ++ state ∷ returned calls
  undecided : (v : State) → Member v earlier → v.decision ≡ 2
  decided : state.decision ≢ 2
  reaches : Member u (state ∷ returned calls)

first_here : (u s : State) (ks : List TrayCall) → HandedOn s ks → Member u (s ∷ returned ks) → s.decision ≢ 2 → FirstDecided u s ks
first_here u s ks h i d =
    record {
      earlier = [];
      state = s;
      calls = ks;
      handed = h;
      split = refl;
      undecided = λ v m. absurd (Memᴰ.not-nil m);
      decided = d;
      reaches = i;
    }

first_decided : (u s : State) (ks : List TrayCall) → HandedOn s ks → Member u (s ∷ returned ks) → u.decision ≢ 2 → FirstDecided u s ks
first_decided u s [] h i made = first_here u s [] h i (λ e. made (ap (λ (x : State). x.decision) (Memᴰ.eq_of_singleton i) ∙ e))
first_decided u s (k ∷ ks) h i made = elim (ℕ_discrete s.decision 2) [
  | no d ↦ first_here u s (k ∷ ks) h i d
  | yes e ↦ elim (Memᴰ.cases_cons i) [
    | inl a ↦ absurd (made (ap (λ (x : State). x.decision) a ∙ e))
    | inr j ↦
        let f = first_decided u k.answer.state ks h.1 j made in
        record {
          earlier = s ∷ f.earlier;
          state = f.state;
          calls = f.calls;
          handed = f.handed;
          split = ap (λ l. s ∷ l) f.split;
          undecided = λ v m. elim (Memᴰ.cases_cons m) [ inl b ↦ ap (λ (x : State). x.decision) b ∙ e | inr n ↦ f.undecided v n ];
          decided = f.decided;
          reaches = f.reaches;
        }
  ]
]

-- ---- a controller's list

module _ (c : Controller) where
  open c use {number, start, trays, handed}

  pub start_returns : Returns (start_view number start.bit) start_rounds start.answer start.after
  start_returns = promise_makes start.promise c.started

  pub start_round : start.answer.state.round ≡ 1
  start_round = ap (λ (s : State). s.round) start_returns.state

  start_passed : (number ≢ 0) × (start.bit ≤ 1) × (max_frame ≤ length start.before)
  start_passed = start_accepted number start.bit (length start.before) (sym start.promise.number ∙ c.started)

  pub start_bit : start.bit ≤ 1
  start_bit = start_passed.1

  pub start_listed : Member start.answer.state (states c)
  start_listed = Memᴰ.head refl

  pub given_listed : {k : TrayCall} → Member k trays → Member k.state (states c)
  given_listed = call_given start.answer.state trays handed

  pub returned_listed : {k : TrayCall} → Member k trays → Member k.answer.state (states c)
  returned_listed i = Memᴰ.tail (Memᴰ.map (λ (k : TrayCall). k.answer.state) i)

  pub state_one : (u v : State) → Member u (states c) → Member v (states c) → u.round ≡ v.round → u ≡ v
  state_one = round_one start.answer.state trays handed

  pub call_one : (k l : TrayCall) → Member k trays → Member l trays → Accepted k → Accepted l → k.state.round ≡ l.state.round → k ≡ l
  call_one = accepted_one start.answer.state trays handed

  pub state_round : (s : State) → Member s (states c) → 1 ≤ s.round
  state_round s i = omega (arith, start_round, round_later start.answer.state trays handed s i)

  -- a controller keeps its number
  pub state_own : (s : State) → Member s (states c) → s.own ≡ number
  state_own = holds_along (λ s. s.own ≡ number) start.answer.state trays handed
      (ap (λ (s : State). s.own) start_returns.state)
      (λ k i w e. ap (λ (s : State). s.own) (accepted_makes k w).state ∙ step_own (view k.state) (received_with k) ∙ e)

  pub start_undecided : undecided (view start.answer.state) ≡ true
  start_undecided = ap (λ (v : View). undecided v) (makes_view start_returns)

  -- each state of the list is sound
  pub state_sound : (s : State) → Member s (states c) → sound s ≡ true
  state_sound = holds_along (λ s. sound s ≡ true) start.answer.state trays handed
      (rw start_returns.state (start_stays_sound number start.bit start_passed.0 start_bit))
      (λ k i w h. rw (accepted_makes k w).state (next_stays_sound k.state k.tray (accepted_fits k w)))

  -- a decided state is the last
  pub state_last : (u v : State) → Member u (states c) → Member v (states c) → undecided (view u) ≡ false → u.round ≤ v.round → v ≡ u
  state_last = decided_last start.answer.state trays handed

  -- each state of the list was made by the start or by a tray that was worked, and one that has not decided with its frame
  pub state_sent : (s : State) → Member s (states c) → undecided (view s) ≡ true → Sent c s.round (sent_bytes (view s))
  state_sent = holds_along (λ s. undecided (view s) ≡ true → Sent c s.round (sent_bytes (view s))) start.answer.state trays handed
      (λ u. inl (start_round, sym (makes_sent start_returns)))
      (λ k i w h u.
      let m = accepted_makes k w in
      let some : 0 < k.answer.length = rw (makes_size m) (sent_something (view k.answer.state) u) in
      inr (k, i, record { accepted = w; round = refl; some = some; frame = sym (makes_sent m) }))

  -- and a frame that was sent is that of such a state in the list
  pub record FrameOf (t : ℕ) (b : List ℕ) : Type 0 where
    pub state : State
    pub listed : Member state (states c)
    pub round : state.round ≡ t
    pub active : undecided (view state) ≡ true
    pub bytes : b ≡ sent_bytes (view state)

  pub sent_state : {t : ℕ} {b : List ℕ} → Sent c t b → FrameOf t b
  sent_state (inl h) =
      record {
        state = start.answer.state;
        listed = start_listed;
        round = start_round ∙ sym h.0;
        active = start_undecided;
        bytes = h.1 ∙ makes_sent start_returns;
      }
  sent_state (inr (k, i, h)) =
      let m = accepted_makes k h.accepted in
      record {
        state = k.answer.state;
        listed = returned_listed i;
        round = h.round;
        active = sender_undecided (view k.answer.state) (rw (makes_size m) at h.some);
        bytes = h.frame ∙ makes_sent m;
      }

  -- a controller with a decided state has decided in the first such, and keeps to it
  pub decides_by : (n : ℕ) (u : State) → Member u (states c) → u.round ≤ 3 + 3 * n → u.decision ≢ 2 → Decides n u.decision c
  decides_by n u i t made =
      let f = first_decided u start.answer.state trays handed i made in
      let stays = decided_stays f.state f.calls f.handed (ne_eqb _ _ f.decided) in
      let reached = ap (λ (s : State). s.decision) (stays u f.reaches) in
      record {
        earlier = f.earlier;
        deciding = f.state;
        later = returned f.calls;
        order = f.split;
        undecided = f.undecided;
        timely = omega (arith, round_later f.state f.calls f.handed u f.reaches);
        decision = sym reached;
        kept = λ v m. ap (λ (s : State). s.decision) (stays v (Memᴰ.tail m)) ∙ sym reached;
      }
