-- Calls worked out from the definitions: what an example of a run is made with.
--     start_call, tray_call   a call whose answer and buffer are just what its promise says
--     Input                   a tray, and how large the output buffer is that comes with it
--     played s is             the calls on the inputs is, each with the state that the call before it returned, the first with s
--     controller n b e is     the controller with number n and bit b that gets the inputs is; e: the number and the bit are fit for a start
use Rattle.std.specs.Prelude.{ℕ, true, not, cond, ◌&&◌, List, [], ◌∷◌, ◌++◌, ◌≡◌, refl, leb, eqb, length, drop, replicate}
use Rattle.controller.specs.Bytes.{max_frame, entries}
use Rattle.controller.specs.State.{View, view, stored_state, start_view, start_rounds, zero_state}
use Rattle.controller.specs.First.{rounds_after}
use Rattle.controller.specs.Rules.{next}
use Rattle.controller.specs.Refusals.{start_refusal, tray_refusal}
use Rattle.controller.specs.Calls.{Promise, sent_bytes}
use Rattle.controller.specs.declared.state.State.{State}
use Rattle.controller.specs.declared.state.Answer.{Answer}
use Rattle.run.specs.Run.{Place, StartCall, TrayCall, HandedOn, Controller}

-- ---- calls

abbrev answer_of : ℕ → View → List ℕ → State → Answer
answer_of n made rounds kept = record {
  refusal = n;
  state = cond (eqb n 0) (stored_state made rounds) kept;
  length = cond (eqb n 0) (length (sent_bytes made)) 0;
}

abbrev buffer_of : ℕ → View → List ℕ → List ℕ
buffer_of n made before = cond (eqb n 0) (sent_bytes made ++ drop (length (sent_bytes made)) before) before

pub promise_kept : (n : ℕ) (made : View) (rounds : List ℕ) (kept : State) (before : List ℕ)
    → Promise n made rounds kept before (answer_of n made rounds kept) (buffer_of n made before)
promise_kept n made rounds kept before = record { number = refl; state = refl; written = refl; output = refl }

-- the promises do not speak of where a buffer lies
abbrev anywhere : Place
anywhere = record { pointer = (0, 0); name = 0 }

abbrev pub start_call : (number bit : ℕ) → List ℕ → StartCall number
start_call number bit before =
    let n = start_refusal number bit (length before) in
    let made = start_view number bit in
    record {
      bit = bit;
      before = before;
      after = buffer_of n made before;
      answer = answer_of n made start_rounds zero_state;
      lifetimes = ([], tt);
      out = anywhere;
      promise = promise_kept n made start_rounds zero_state before;
    }

abbrev pub tray_call : State → List ℕ → List ℕ → TrayCall
tray_call s b before =
    let n = tray_refusal s b (length before) in
    let made = next (view s) (entries b) in
    let rounds = rounds_after s (entries b) in
    record {
      state = s;
      tray = b;
      before = before;
      after = buffer_of n made before;
      answer = answer_of n made rounds s;
      lifetimes = ([], ([], tt));
      source = anywhere;
      out = anywhere;
      promise = promise_kept n made rounds s before;
    }

-- ---- a controller's calls

pub record Input : Type 0 where
  pub tray : List ℕ
  pub room : ℕ

abbrev pub played : State → List Input → List TrayCall
played s [] = []
played s (i ∷ is) = let k = tray_call s i.tray (replicate i.room 0) in k ∷ played k.answer.state is

pub played_handed : (s : State) (is : List Input) → HandedOn s (played s is)
played_handed s [] = tt
played_handed s (i ∷ is) = (refl, played_handed (tray_call s i.tray (replicate i.room 0)).answer.state is)

pub start_works : (number bit : ℕ) → not (eqb number 0) && leb bit 1 ≡ true → start_refusal number bit max_frame ≡ 0
unfolding start_refusal
start_works number bit e = rw e

abbrev pub controller : (number bit : ℕ) → not (eqb number 0) && leb bit 1 ≡ true → List Input → Controller
controller number bit e is =
    let first = start_call number bit (replicate max_frame 0) in
    record {
      number = number;
      start = first;
      started = start_works number bit e;
      trays = played first.answer.state is;
      handed = played_handed first.answer.state is;
    }
