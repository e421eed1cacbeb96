-- Why the record has for each number the round of the first worked tray that brought it: along the list each call keeps what is recorded, and
-- records who is new.
--     first_heard    the theorem
use Rattle.std.specs.Prelude.{ℕ, List, [], ◌∷◌, ◌++◌, ◌⊎◌, ◌≢◌, ◌↔◌, ◌≡◌, refl, length}
use Rattle.std.proofs.Math.Bool.{and-false}
use mathlib.Core.List.Memᴰ
use Rattle.std.proofs.Common.{inl, inr, sym, ap, ◌∙◌, subst, eq-eqb, ne_eqb}
use Rattle.std.proofs.Math.Decide.{ℕ_discrete}
use Rattle.controller.specs.Bytes.{round_of, entries}
use Rattle.controller.specs.First.{first_in, first_of, firsts_after}
use Rattle.controller.specs.Laws.First.{first_in_stored, first_kept, first_new, first_of_none, firsts_length}
use Rattle.controller.specs.Laws.Lists.{in_or_not, in_mem, out_mem}
use Rattle.controller.specs.Laws.Received.{heard_in_lem}
use Rattle.controller.specs.Laws.Rules.{step_heard}
use Rattle.controller.specs.Lists.{In}
use Rattle.controller.specs.Received.{senders}
use Rattle.controller.specs.State.{View, view, first_rounds}
use Rattle.controller.specs.declared.state.State.{State}
use Rattle.run.specs.FirstHeard.{heard, Brought, first_brought, FirstHeard}
use Rattle.run.proofs.Argument.Calls.{makes_view, received_with, made_by, accepted_fits, accepted_makes, accepted_or_kept, promise_keeps}
use Rattle.run.proofs.Argument.Calls.{handed_front, handed_rest, state_append, start_returns, given_listed, state_own}
use Rattle.run.specs.Run.{Member, TrayCall, Accepted, HandedOn, Controller, state_after}

-- ---- one call that works

module _ (k : TrayCall) (w : Accepted k) where
  abbrev sent : List ℕ
  sent = senders (entries k.tray)

  heard_made : heard k.answer.state ≡ (received_with k).heard
  heard_made = ap (λ (v : View). v.rotor.heard) (makes_view (accepted_makes k w)) ∙ step_heard (view k.state) (received_with k)

  -- who is heard after it
  pub call_heard : (x : ℕ) → In x (heard k.answer.state) ↔ (In x sent ⊎ In x (heard k.state))
  call_heard x =
      let both = heard_in_lem (view k.state) (entries k.tray) in
      (λ i. both.0 (subst (In x) heard_made i), λ e. subst (In x) (sym heard_made) (both.1 e))

  -- its record
  first_made : (x : ℕ)
      → first_in k.answer.state x ≡ first_of x (received_with k).heard (firsts_after (view k.state) (first_rounds k.state) (entries k.tray))
  first_made x =
      let v = view k.state in
      let firsts = firsts_after v (first_rounds k.state) (entries k.tray) in
      let heard-is = step_heard v (received_with k) in
      ap (λ (s : State). first_in s x) (accepted_makes k w).state
      ∙ first_in_stored (made_by k) firsts x (firsts_length v (first_rounds k.state) (entries k.tray) ∙ ap length (sym heard-is))
      ∙ ap (λ (l : List ℕ). first_of x l firsts) heard-is

  pub call_kept : (x : ℕ) → In x (heard k.state) → first_in k.answer.state x ≡ first_in k.state x
  call_kept x i = first_made x ∙ first_kept (view k.state) (first_rounds k.state) (entries k.tray) x i

  pub call_new : (x : ℕ) → In x sent → (¬ In x (heard k.state)) → first_in k.answer.state x ≡ round_of k.tray
  call_new x i out =
      first_made x ∙ first_new (view k.state) (first_rounds k.state) (entries k.tray) x i out ∙ sym (accepted_fits k w).round

-- ---- a list of calls

-- the first call, worked or refused, and those behind it
first_brought_lem : (k : TrayCall) (ks : List TrayCall) (x : ℕ) → Accepted k → In x (senders (entries k.tray)) → first_brought x (k ∷ ks) ≡ round_of k.tray
first_brought_lem k ks x w i = rw (eq-eqb _ _ w, in_mem i)

not_brought : (k : TrayCall) (ks : List TrayCall) (x : ℕ) → ((k.answer.refusal ≢ 0) ⊎ (¬ In x (senders (entries k.tray))))
    → first_brought x (k ∷ ks) ≡ first_brought x ks
not_brought k ks x (inl refused) = rw (ne_eqb _ _ refused)
not_brought k ks x (inr out) = rw (out_mem (senders (entries k.tray)) out, and-false)

-- a number that no worked tray brings
never_brought : (x : ℕ) (ks : List TrayCall) → ((k : TrayCall) → Member k ks → Accepted k → ¬ In x (senders (entries k.tray))) → first_brought x ks ≡ 0
never_brought x [] out = refl
never_brought x (k ∷ ks) out =
    let here : (k.answer.refusal ≢ 0) ⊎ (¬ In x (senders (entries k.tray))) = elim (ℕ_discrete k.answer.refusal 0) [
      | yes w ↦ inr (out k (Memᴰ.head refl) w)
      | no refused ↦ inl refused
    ] in
    not_brought k ks x here ∙ never_brought x ks (λ l i. out l (Memᴰ.tail i))

-- a number that is heard keeps its round
heard_kept : (s : State) (ks : List TrayCall) → HandedOn s ks → (x : ℕ) → In x (heard s) → first_in (state_after s ks) x ≡ first_in s x
heard_kept s [] h x i = refl
heard_kept s (k ∷ ks) h x i =
    let here : In x (heard k.state) = subst (λ u. In x (heard u)) (sym h.0) i in
    elim (accepted_or_kept k) [
      | inl w ↦
          heard_kept k.answer.state ks h.1 x ((call_heard k w x).1 (inr here))
          ∙ call_kept k w x here ∙ ap (λ u. first_in u x) h.0
      | inr e ↦
          heard_kept k.answer.state ks h.1 x (subst (λ u. In x (heard u)) (sym e) here)
          ∙ ap (λ u. first_in u x) (e ∙ h.0)
    ]

-- a number that is not heard gets the round of the first worked tray that brings it
unheard_brought : (s : State) (ks : List TrayCall) → HandedOn s ks → (x : ℕ) → (¬ In x (heard s)) → first_in (state_after s ks) x ≡ first_brought x ks
unheard_brought s [] h x out = first_of_none (heard s) (first_rounds s) x out
unheard_brought s (k ∷ ks) h x out =
    let before : ¬ In x (heard k.state) = subst (λ u. ¬ In x (heard u)) (sym h.0) out in
    elim (ℕ_discrete k.answer.refusal 0) [
      | yes w ↦ elim (in_or_not x (senders (entries k.tray))) [
        | inl i ↦
            heard_kept k.answer.state ks h.1 x ((call_heard k w x).1 (inl i))
            ∙ call_new k w x i before ∙ sym (first_brought_lem k ks x w i)
        | inr away ↦
            let still : ¬ In x (heard k.answer.state) = λ i. elim ((call_heard k w x).0 i) [ inl j ↦ away j | inr j ↦ before j ] in
            unheard_brought k.answer.state ks h.1 x still ∙ sym (not_brought k ks x (inr away))
      ]
      | no refused ↦
          let same : k.answer.state ≡ k.state = promise_keeps k.promise refused in
          unheard_brought k.answer.state ks h.1 x (subst (λ u. ¬ In x (heard u)) (sym same) before)
          ∙ sym (not_brought k ks x (inl refused))
    ]

-- who is heard after a list of calls
heard_after_lem : (s : State) (ks : List TrayCall) → HandedOn s ks → (x : ℕ) → In x (heard (state_after s ks)) ↔ (In x (heard s) ⊎ Brought x ks)
heard_after_lem s [] h x = (inl, λ e. elim e [ inl i ↦ i | inr b ↦ absurd (Memᴰ.not-nil b.1) ])
heard_after_lem s (k ∷ ks) h x =
    let rest = heard_after_lem k.answer.state ks h.1 x in
    let back : In x (heard k.state) → In x (heard s) = subst (λ u. In x (heard u)) h.0 in
    let there : In x (heard s) → In x (heard k.state) = subst (λ u. In x (heard u)) (sym h.0) in
    let later : Brought x ks → Brought x (k ∷ ks) = λ b. (b.0, Memᴰ.tail b.1, b.2, b.3) in
    elim (ℕ_discrete k.answer.refusal 0) [
      | yes w ↦ (
        λ i. elim (rest.0 i) [
          | inl j ↦ elim ((call_heard k w x).0 j) [ inl m ↦ inr (k, Memᴰ.head refl, w, m) | inr m ↦ inl (back m) ]
          | inr b ↦ inr (later b)
        ],
        λ e. rest.1 (elim e [
          | inl i ↦ inl ((call_heard k w x).1 (inr (there i)))
          | inr b ↦ elim (Memᴰ.cases_cons b.1) [
            | inl q ↦ inl ((call_heard k w x).1 (inl (subst (λ (l : TrayCall). In x (senders (entries l.tray))) q b.3)))
            | inr j ↦ inr (b.0, j, b.2, b.3)
          ]
        ]),
      )
      | no refused ↦
          let same : k.answer.state ≡ k.state = promise_keeps k.promise refused in (
            λ i. elim (rest.0 i) [ inl j ↦ inl (back (subst (λ u. In x (heard u)) same j)) | inr b ↦ inr (later b) ],
            λ e. rest.1 (elim e [
              | inl i ↦ inl (subst (λ u. In x (heard u)) (sym same) (there i))
              | inr b ↦ elim (Memᴰ.cases_cons b.1) [
                | inl q ↦ absurd (refused (subst Accepted q b.2))
                | inr j ↦ inr (b.0, j, b.2, b.3)
              ]
            ]),
          )
    ]

-- ---- from a start

module _ (c : Controller) where
  abbrev begun : State
  begun = c.start.answer.state

  start_heard : heard begun ≡ c.number ∷ []
  start_heard = ap (λ (v : View). v.rotor.heard) (makes_view (start_returns c))

  start_own : (x : ℕ) → In x (heard begun) ↔ (x ≡ c.number)
  start_own x = (
    λ i. Memᴰ.eq_of_singleton (subst (In x) start_heard i),
    λ e. subst (In x) (sym start_heard) (Memᴰ.head e),
  )

  start_first : first_in begun c.number ≡ 0
  start_first =
      ap (λ (s : State). first_in s c.number) (start_returns c).state
      ∙ rw (eq-eqb c.number c.number refl)

  -- no worked tray brings the own number
  own_never : (ks ls : List TrayCall) → c.trays ≡ ks ++ ls → first_brought c.number ks ≡ 0
  own_never ks ls e = never_brought c.number ks (λ k i w sent.
      let listed = subst (Member k) (sym e) (Memᴰ.append_left ls i) in
      (accepted_fits k w).others (subst (λ n. In n (senders (entries k.tray))) (sym (state_own c k.state (given_listed c listed))) sent))

  pub first_heard : FirstHeard c
  first_heard =
      record {
        hears = λ earlier later e x.
            let handed = handed_front begun earlier later (subst (HandedOn begun) e c.handed) in
            let both = heard_after_lem begun earlier handed x in (
              λ i. elim (both.0 i) [ inl j ↦ inl ((start_own x).0 j) | inr b ↦ inr b ],
              λ d. both.1 (elim d [ inl q ↦ inl ((start_own x).1 q) | inr b ↦ inr b ]),
            );
        rounds = λ earlier later e x.
            let handed = handed_front begun earlier later (subst (HandedOn begun) e c.handed) in
            elim (ℕ_discrete x c.number) [
              | yes q ↦
                  let own : In c.number (heard begun) = (start_own c.number).1 refl in
                  rw q (heard_kept begun earlier handed c.number own ∙ start_first ∙ sym (own_never earlier later e))
              | no other ↦ unheard_brought begun earlier handed x (λ i. other ((start_own x).0 i))
            ];
        kept = λ earlier more later e x i.
            let all = subst (HandedOn begun) e c.handed in
            let handed = handed_rest begun earlier more (handed_front begun (earlier ++ more) later all) in
            ap (λ (s : State). first_in s x) (state_append begun earlier more) ∙ heard_kept (state_after begun earlier) more handed x i;
      }
