-- The run of demand 3: document 01, "The run of demand 3", sentence by sentence, with document 02, "A7. Let decided controllers go quiet".
--     Place                    where a slice lies that is lent to a call; no promise speaks of it
--     TrayCall, StartCall      a call with what went in and what came out, and that what its contract ensures holds of them
--     Controller               a proper controller's list of calls
--     state_after s ks         the state that the last of the calls ks returned; s where there is none
--     Made k t b               the call k made round t and gave the frame b
--     Sent c t b               b is the frame that c sent for round t
--     Delivers l f p t b       the line's guarantee for a tray b of round t to the controller p, among the proper ones l and the faulty ones f
--     Network l f              a run but for how many are faulty: proper ones l and faulty ones f, any number of them
--     Run                      a run: a network with 3f < n
-- Members of lists of records are given by `Member`, the library's membership.
use Rattle.std.proofs.Common.{List, [], ◌∷◌, ◌++◌, map}
use Rattle.std.specs.Prelude.{ℕ, ◌+◌, ◌*◌, ◌≤◌, ◌<◌, ◌⊎◌, ◌≢◌, true, ◌≡◌, length, take}
use mathlib.Core.List.{Memᴰ}
use contract.Lifetimes.{Lfts}
use Rattle.std.specs.Borrow.{Bor, MutBor}
use Rattle.controller.specs.Bytes.{Entry, well_formed, round_of, entries}
use Rattle.controller.specs.Lists.{In, NoRepeats}
use Rattle.controller.specs.Received.{senders}
use Rattle.controller.proofs.calls.start.Reads as start-contract
use Rattle.controller.proofs.calls.tray.Reads as tray-contract
use Rattle.controller.specs.declared.state.State.{State}
use Rattle.controller.specs.declared.state.Answer.{Answer}

abbrev pub Member : {A : Type 0} → A → List A → Type 0
Member x l = Memᴰ x l

-- ---- calls

-- where a slice lies in memory, and the name under which the contract follows what is behind it
pub record Place : Type 0 where
  pub pointer : ℕ × ℕ
  pub name : ℕ

-- lent to be read, and to be written
abbrev pub lent : Place → List ℕ → Bor (List ℕ)
lent p l = record { ref_ptr = p.pointer; now = l }

abbrev pub lent_out : Place → List ℕ → MutBor (List ℕ)
lent_out p l = record { ref_ptr = p.pointer; ghost_name = p.name; now = l }

pub record StartCall (number : ℕ) : Type 0 where
  -- the bit given to the start, "the one it brought in"
  pub bit : ℕ
  -- the output buffer at entry and at exit
  pub before : List ℕ
  pub after : List ℕ
  pub answer : Answer
  pub lifetimes : Lfts 1
  pub out : Place
  -- what the contract of `start` ensures
  pub promise : start-contract.Post lifetimes (number, (bit, (lent_out out before, tt))) answer (number, (bit, (lent_out out after, tt)))

pub record TrayCall : Type 0 where
  pub state : State
  pub tray : List ℕ
  pub before : List ℕ
  pub after : List ℕ
  pub answer : Answer
  pub lifetimes : Lfts 2
  pub source : Place
  pub out : Place
  -- what the contract of `tray` ensures
  pub promise : tray-contract.Post lifetimes (state, (lent source tray, (lent_out out before, tt))) answer (state, (lent source tray, (lent_out out after, tt)))

-- "trays, worked or refused"
abbrev pub Accepted : TrayCall → Type 0
Accepted k = k.answer.refusal ≡ 0

-- "Each tray is handed over with the state that the call before it returned, and nothing else writes that state in between"
abbrev pub HandedOn : State → List TrayCall → Type 0
HandedOn s [] = Unit {0}
HandedOn s (k ∷ ks) = (k.state ≡ s) × HandedOn k.answer.state ks

-- "Each proper one has a list of calls on its own state and no other: a start with its number and a bit, not refused, then trays"
pub record Controller : Type 0 where
  pub number : ℕ
  pub start : StartCall number
  pub started : start.answer.refusal ≡ 0
  pub trays : List TrayCall
  pub handed : HandedOn start.answer.state trays

-- the state that the last of the calls returned, s where there is none
abbrev pub state_after : State → List TrayCall → State
state_after s [] = s
state_after s (k ∷ ks) = state_after k.answer.state ks

-- the states that a controller's calls return, in order
abbrev pub states : Controller → List State
states c = c.start.answer.state ∷ map (λ (k : TrayCall). k.answer.state) c.trays

-- the call made round t, and a frame came out with it: where the length is 0 nothing is sent
pub record Made (k : TrayCall) (t : ℕ) (b : List ℕ) : Type 0 where
  pub accepted : Accepted k
  pub round : k.answer.state.round ≡ t
  pub some : 0 < k.answer.length
  pub frame : b ≡ take k.answer.length k.after

-- "The frame sent for round t is what the call that made round t wrote, up to the returned length; start makes round 1"; document 02, A7: "A controller
-- sends nothing from the round of its decision on: the output length is 0"
abbrev pub Sent : Controller → ℕ → List ℕ → Type 0
Sent c t b = ((t ≡ 1) × (b ≡ take c.start.answer.length c.start.after)) ⊎ ((k : TrayCall) × Member k c.trays × Made k t b)

-- ---- the line

abbrev pub numbers : List Controller → List ℕ
numbers l = map (λ (c : Controller). c.number) l

abbrev pub everyone : List Controller → List ℕ → List ℕ
everyone correct faulty = numbers correct ++ faulty

-- the line's guarantee. "Entries under faulty numbers are free in count and bytes, for each receiver and each round"
pub record Delivers (correct : List Controller) (faulty : List ℕ) (receiver t : ℕ) (tray : List ℕ) : Type 0 where
  -- "it is well packed, its round is t"
  pub packed : well_formed tray ≡ true
  pub round : round_of tray ≡ t
  -- "each sender in it is one of the other n − 1 numbers"
  pub others : (x : ℕ) → In x (senders (entries tray)) → In x (everyone correct faulty) × (x ≢ receiver)
  -- "each other proper one has an entry", if it sent a frame for round t
  pub present : (c : Controller) → Member c correct → c.number ≢ receiver → (b : List ℕ) → Sent c t b → In c.number (senders (entries tray))
  -- "the bytes of every entry under its number are the frame which it sent for round t"; document 02, A7: "the line's guarantee brings no entry at all under
  -- the number of a proper controller that has gone quiet", since that one sent none
  pub frames : (e : Entry) → Member e (entries tray) → (c : Controller) → Member c correct → e.sender ≡ c.number → Sent c t e.bytes

-- ---- the run

-- a run, but for how many are faulty
pub record Network (correct : List Controller) (faulty : List ℕ) : Type 0 where
  -- "A run has n controllers, 1 to 64"
  pub size : (1 ≤ length (everyone correct faulty)) × (length (everyone correct faulty) ≤ 64)
  -- "with n different numbers, none 0"
  pub differ : NoRepeats (everyone correct faulty)
  pub nonzero : (x : ℕ) → In x (everyone correct faulty) → x ≢ 0
  -- "For each round t up to 2 + 3n for which a proper controller sent a frame, it works one tray of round t, and that tray keeps the guarantee"
  -- "Past these rounds its trays may be anything. Refused trays may be of any bytes, with any output buffer, in any number and at any place": so no
  -- field speaks of other trays
  pub works : (c : Controller) → Member c correct → (t : ℕ) → t ≤ 2 + 3 * length (everyone correct faulty) → (b : List ℕ) → Sent c t b
      → (k : TrayCall) × Member k c.trays × Accepted k × Delivers correct faulty c.number t k.tray

pub record Run : Type 0 where
  -- "Of these f are faulty .. the others are proper"
  pub correct : List Controller
  pub faulty : List ℕ
  pub network : Network correct faulty
  -- "with 3f < n"
  pub few : 3 * length faulty < length (everyone correct faulty)
