-- Laws of the order of entries, document 02, "A5. Two different frames under one number": which frame counts does not hang on tray order.
use Rattle.std.specs.Prelude.{ℕ, true, ◌&&◌, ◌≡◌, eqb, length}
use Rattle.std.proofs.Math.Bool.{cond}
use mathlib.Core.List.Memᴰ
use mathlib.Core.List.Permᴰ
use mathlib.Core.List.{Permᴰ}
use Rattle.std.proofs.Math.Logic.{inl, inr}
use Rattle.std.specs.Prelude.{Some}
use Rattle.std.proofs.Common.{sym, ap, ◌∙◌, List}
use Rattle.wire.specs.Laws.Found.{under_order}
use Rattle.wire.specs.Tray.{Entry, well_formed, round_of, entries}
use Rattle.controller.specs.Lists.{In, Rising, mem, insert_all}
use Rattle.controller.specs.State.{View, view, sound}
use Rattle.controller.specs.Received.{frame_of, stand_in, senders, read_in, is_nothing, receive}
use Rattle.controller.specs.First.{firsts_after, rounds_after}
use Rattle.controller.specs.Refusals.{tray_refusal}
use Rattle.controller.specs.Calls.{Promise, TrayPromise}
use Rattle.controller.specs.Laws.Lists.{true_or_false, in_or_not, in_mem, out_mem, rising_same, insert_all_in, insert_all_rising}
use Rattle.controller.specs.Laws.Refusals.{unsound_refused}
use Rattle.controller.specs.Laws.State.{sound_gives}
use Rattle.controller.specs.declared.state.Answer.{Answer}
use Rattle.controller.specs.declared.state.State.{State}

-- ---- who is heard

order_in : {x : ℕ} {es fs : List Entry} → Permᴰ es fs → In x (senders es) → In x (senders fs)
order_in Permᴰ.nil i = i
order_in (Permᴰ.cons e p) i = elim (Memᴰ.cases_cons i) [
  | inl q ↦ Memᴰ.head (q ∙ ap (λ (y : Entry). y.sender) e)
  | inr j ↦ Memᴰ.tail (order_in p j)
]
order_in (Permᴰ.swap e f) i = elim (Memᴰ.cases_cons i) [
  | inl q ↦ Memᴰ.tail (Memᴰ.head (q ∙ ap (λ (y : Entry). y.sender) e))
  | inr j ↦ elim (Memᴰ.cases_cons j) [
    | inl q ↦ Memᴰ.head (q ∙ ap (λ (y : Entry). y.sender) f)
    | inr k ↦ Memᴰ.tail (Memᴰ.tail k)
  ]
]
order_in (Permᴰ.trans p q) i = order_in q (order_in p i)

module _ {es fs : List Entry} (p : Permᴰ es fs) where
  order_mem : (x : ℕ) → mem x (senders es) ≡ mem x (senders fs)
  order_mem x = elim (in_or_not x (senders es)) [
    | inl i ↦ in_mem i ∙ sym (in_mem (order_in p i))
    | inr out ↦ out_mem (senders es) out ∙ sym (out_mem (senders fs) (λ i. out (order_in (Permᴰ.symm p) i)))
  ]

  order_heard : (l : List ℕ) → Rising l → insert_all (senders es) l ≡ insert_all (senders fs) l
  order_heard l up =
      rising_same _ _ (insert_all_rising (senders es) l up) (insert_all_rising (senders fs) l up)
      (λ x i. elim ((insert_all_in (senders es) l).0 i) [
        | inl j ↦ (insert_all_in (senders fs) l).1 (inl (order_in p j))
        | inr j ↦ (insert_all_in (senders fs) l).1 (inr j)
      ])
      (λ x i. elim ((insert_all_in (senders fs) l).0 i) [
        | inl j ↦ (insert_all_in (senders es) l).1 (inl (order_in (Permᴰ.symm p) j))
        | inr j ↦ (insert_all_in (senders es) l).1 (inr j)
      ])

  -- ---- what is received

  -- any permutation of the entries is received alike
  pub received_order : (v : View) → Rising v.rotor.heard → receive v es ≡ receive v fs
  unfolding receive
  received_order v up =
      let heard = order_heard v.rotor.heard up in
      λ i. record {
        heard = heard i;
        from = λ x.
            let u = under_order x p i in
            cond (eqb x v.own) (Some (frame_of v)) (cond (mem x v.rotor.heard && is_nothing u) (Some (stand_in v)) (read_in v.round u));
      }

-- ---- what a call promises

-- what a state that refuses each tray alike would have made does not matter
keeps : {v w : View} {p q : List ℕ} {s : State} {given left : List ℕ} {r : Answer} → Promise 1 v p s given r left → Promise 1 w q s given r left
keeps h = record { number = h.number; state = h.state; written = h.written; output = h.output }

-- two well packed trays of one round, with the same entries in another order
module _ (s : State) (b c : List ℕ) (packed : well_formed b ≡ true) (packed' : well_formed c ≡ true) (round : round_of b ≡ round_of c)
    (order : Permᴰ (entries b) (entries c)) where
  sound_order : sound s ≡ true → receive (view s) (entries b) ≡ receive (view s) (entries c)
  sound_order h = received_order order (view s) (sound_gives s h).heard.rises

  rounds_order : sound s ≡ true → rounds_after s (entries b) ≡ rounds_after s (entries c)
  unfolding firsts_after
  rounds_order h = rw (sound_order h)

  pub refusal_order : (n : ℕ) → tray_refusal s b n ≡ tray_refusal s c n
  unfolding tray_refusal
  refusal_order n = elim (true_or_false (sound s)) [
    | inl h ↦ rw (packed, packed', round, order_mem order 0, order_mem order s.own, sound_order h)
    | inr h ↦ rw h
  ]

  -- whatever is promised of the one is promised of the other: they get the same answer
  pub promise_order : {given left : List ℕ} {r : Answer} → TrayPromise s b given r left → TrayPromise s c given r left
  promise_order {given} {left} {r} p = elim (true_or_false (sound s)) [
    | inl h ↦ rw (refusal_order (length given), sound_order h, rounds_order h) at p
    | inr h ↦
        let refused : tray_refusal s b (length given) ≡ 1 = unsound_refused s b (length given) h in
        rw (unsound_refused s c (length given) h) (keeps (rw refused at p))
  ]
