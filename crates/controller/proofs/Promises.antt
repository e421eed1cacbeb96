-- How an answer meets a call's promise.
--     refusal_some        no cause has number 0
--     promise_refused     a refusal returns the state that is kept, length 0, and leaves the buffer
--     promise_left        so does one of a call on a state that is lent
--     promise_sent        a call that is not refused returns the state that is made, and sends its frame
--     tests_left          of a tray that has passed tests 1 to 5, the tests that are left
use Rattle.std.specs.Prelude.{ℕ, false, cond, List, eqb, Ok, Err}
use Rattle.std.proofs.Math.Path.{◌≡◌, refl}
use Rattle.std.proofs.Common.{sym, lt-ltb, le-leb, eq-eqb}
use Rattle.wire.specs.Limits.{max_frame, last_round}
use Rattle.wire.specs.Tray.{entries, round_of}
use Rattle.controller.specs.Refusals.{tray_refusal, senders_fit, heard_fit, lists_fit}
use Rattle.controller.specs.State.{View, view, stored_state}
use Rattle.controller.specs.Work.Calls.{Checked, Sends}
use Rattle.controller.specs.Calls.{Promise, refusal_number, answer_of}
use Rattle.controller.specs.declared.state.State.{State}
use Rattle.controller.specs.declared.state.Answer.{Answer}
use Rattle.controller.specs.declared.state.Refusal.{Refusal}
use Rattle.controller.specs.declared.state.Refusal.TheVariants.{Unsound, Finished, NoRoom, BadlyPacked, OtherRound, BadSender, TooManyHeard}
use Rattle.controller.specs.declared.state.Refusal.TheVariants.{TooManyListed, BadStart}

pub refusal_some : (e : Refusal) → eqb (refusal_number e) 0 ≡ false
refusal_some Unsound = refl
refusal_some Finished = refl
refusal_some NoRoom = refl
refusal_some BadlyPacked = refl
refusal_some OtherRound = refl
refusal_some BadSender = refl
refusal_some TooManyHeard = refl
refusal_some TooManyListed = refl
refusal_some BadStart = refl

module _ {n : ℕ} {v : View} {p : List ℕ} {s : State} {b : List ℕ} where
  pub promise_left : (e : Refusal) (t : State) → n ≡ refusal_number e → t ≡ s → Promise n v p s b (answer_of (Err e) t) b
  promise_left e t q kept =
      let z = refusal_some e in
      record { number = sym q; state = rw (q, z) kept; written = rw (q, z); output = rw (q, z) }

  pub promise_refused : (e : Refusal) (r : Answer) → n ≡ refusal_number e → r ≡ answer_of (Err e) s → Promise n v p s b r b
  promise_refused e r q same = rw same (promise_left e s q refl)

  pub promise_sent : (t : State) (l : ℕ) (a : List ℕ) → n ≡ 0 → t ≡ stored_state v p → Sends v b l a → Promise n v p s b (answer_of (Ok l) t) a
  promise_sent t l a e made sent = record { number = sym e; state = rw e made; written = rw e sent.written; output = rw e sent.output }

pub tests_left : {s : State} {b : List ℕ} {n : ℕ} → Checked s b n
    → tray_refusal s b n ≡ cond (senders_fit (view s) (entries b)) (cond (heard_fit (view s) (entries b)) (cond (lists_fit (view s) (entries b)) 0 8) 7) 6
unfolding tray_refusal
tests_left {s} {b} {n} k =
    rw (k.sound, lt-ltb s.round last_round k.early, k.active, le-leb max_frame n k.room, k.packed, eq-eqb (round_of b) s.round k.round)
