-- What a call promises, for every input, refused ones too: document 01, "Refusals" and "Agreement between us and the developers", and document 02,
-- "A7. Let decided controllers go quiet".
--     refusal_number e                 the papers' number of each cause; number_tested r, that of what a test answers, 0 for none
--     Promise k v p s given r left     the call is refused under k (0: not refused), in which case it returns the state s and leaves the buffer as
--                                      it was; else it returns the state v, with the record whose places are p, and writes v's frame in front of what
--                                      stood in the buffer; a decided state has no frame, so that the length is 0 and the buffer stays
--     StartPromise, TrayPromise        the promises of start and of tray
--     answer_of r t                    what a call on a state that is lent answers, where it returns r and leaves the state t
--     WorkPromise                      the promise of work: that of tray, on a state that is lent
use Rattle.std.specs.Prelude.{ℕ, cond, List, [], ◌++◌, ◌≡◌, eqb, length, drop, Result, Ok, Err}
use Rattle.wire.specs.Frame.{frame_bytes}
use Rattle.wire.specs.Tray.{entries}
use Rattle.controller.specs.State.{View, view, undecided, stored_state, start_view, start_rounds, zero_state}
use Rattle.controller.specs.Received.{frame_of}
use Rattle.controller.specs.First.{rounds_after}
use Rattle.controller.specs.Rules.{next}
use Rattle.controller.specs.Refusals.{start_refusal, tray_refusal}
use Rattle.controller.specs.declared.state.State.{State}
use Rattle.controller.specs.declared.state.Answer.{Answer}
use Rattle.controller.specs.declared.state.Refusal.{Refusal}
use Rattle.controller.specs.declared.state.Refusal.TheVariants.{Unsound, Finished, NoRoom, BadlyPacked, OtherRound, BadSender, TooManyHeard}
use Rattle.controller.specs.declared.state.Refusal.TheVariants.{TooManyListed, BadStart}

abbrev pub refusal_number : Refusal → ℕ
refusal_number Unsound = 1
refusal_number Finished = 2
refusal_number NoRoom = 3
refusal_number BadlyPacked = 4
refusal_number OtherRound = 5
refusal_number BadSender = 6
refusal_number TooManyHeard = 7
refusal_number TooManyListed = 8
refusal_number BadStart = 9

abbrev pub number_tested : {T : Type 0} → Result T Refusal → ℕ
number_tested (Ok x) = 0
number_tested (Err e) = refusal_number e

-- the bytes of the frame that is sent with a state; document 02, A7: "A controller sends nothing from the round of its decision on"
abbrev pub sent_bytes : View → List ℕ
sent_bytes v = cond (undecided v) (frame_bytes (frame_of v)) []

pub record Promise (refusal : ℕ) (made : View) (rounds : List ℕ) (kept : State) (given : List ℕ) (r : Answer) (left : List ℕ) : Type 0 where
  pub number : r.refusal ≡ refusal
  pub state : r.state ≡ cond (eqb refusal 0) (stored_state made rounds) kept
  pub written : r.length ≡ cond (eqb refusal 0) (length (sent_bytes made)) 0
  pub output : left ≡ cond (eqb refusal 0) (sent_bytes made ++ drop (length (sent_bytes made)) given) given

-- start(number, bit, out), with the buffer that is given and as it is left
abbrev pub StartPromise : ℕ → ℕ → List ℕ → Answer → List ℕ → Type 0
StartPromise number bit given r left = Promise (start_refusal number bit (length given)) (start_view number bit) start_rounds zero_state given r left

-- tray(state, tray, out)
abbrev pub TrayPromise : State → List ℕ → List ℕ → Answer → List ℕ → Type 0
TrayPromise s tray given r left = Promise (tray_refusal s tray (length given)) (next (view s) (entries tray)) (rounds_after s (entries tray)) s given r left

abbrev pub answer_of : Result ℕ Refusal → State → Answer
answer_of (Ok n) t = record { refusal = 0; state = t; length = n }
answer_of (Err e) t = record { refusal = refusal_number e; state = t; length = 0 }

-- work(state, tray, out), with the state and the buffer that are given and as they are left
abbrev pub WorkPromise : State → List ℕ → List ℕ → Result ℕ Refusal → State → List ℕ → Type 0
WorkPromise s tray given r t left = TrayPromise s tray given (answer_of r t) left
