-- Lines of controllers with all their calls, worked out byte by byte: what each faulty one sends is given, and the machine works out the rest.
--     one           one controller, number 7 and bit 1; it gets empty trays
--     joining       document 01's last trial, as the controller's Examples has it: proper 5, 7, 9 with the bits 0, 1, 1, and faulty 3
--     divided       proper 5, 7, 9 and faulty 3, which makes them stop at different rounds: 7 and 9 decide in round 12, 5 in round 15
--     flattered     proper 5 and 7 with the bits 0 and 1, and faulty 3, which agrees with each of them
--     tested        what is worked out of them: the first three are runs, the fourth is a network in which 5 decides 0 and 7 decides 1
-- In each line each tray comes after bytes that are no tray, then with too small a buffer, then with room; so it goes on after a decision, where all are
-- refused. The first entry of each tray comes twice. Past round 2 + 3n there are two trays more: one with an unknown sender's entry only, and an empty one.
use Rattle.std.specs.Prelude.{ℕ, zero, suc, ◌%◌, Bool, true, not, cond, ◌&&◌, ◌||◌, List, [], ◌∷◌, ◌++◌, map, ◌≡◌, refl, eqb, leb, ltb, length}
use Rattle.controller.specs.Bytes.{max_frame, Entry, round_of, entry_count, sender, well_formed, part, entries, kind_of, chosen_by, said_by}
use Rattle.controller.specs.Bytes.{bit_fits, max_count, length_fits, round_fits, head_fits, body_fits, read_refusal, content, frame_bytes}
use Rattle.controller.specs.Lists.{mem, count_if}
use Rattle.controller.specs.Thirds.{third, two_thirds}
use Rattle.controller.specs.State.{View, undecided, start_view, same, sound_rules, sound_beside, sound}
use Rattle.controller.specs.First.{firsts_after}
use Rattle.controller.specs.Received.{frame_of, stand_in, senders, receive}
use Rattle.controller.specs.Rotation.{roster, tally, mentioned, echoed, joined, candidates_after, decides, king_after}
use Rattle.controller.specs.Bit.{bit_taken, decision_after, value_said, value_two_thirds, proposal_third, proposal_two_thirds, proposal, bit_adopted}
use Rattle.controller.specs.Bit.{strong_after, opinion}
use Rattle.controller.specs.Rules.{step, next}
use Rattle.controller.specs.Refusals.{start_refusal, tray_refusal}
use Rattle.controller.specs.declared.state.State.{State}
use Rattle.run.specs.Run.{TrayCall, Controller, states}
use Rattle.run.specs.OneMind.{candidates}
use Rattle.run.proofs.Inhabitants.RunTest.{all_pass, some_pass, delivers_test, network_test, run_test}
use Rattle.controller.specs.Examples.{from_three, from_others, packed, starts}
use Rattle.run.proofs.Inhabitants.Played.{Input, controller}

-- ---- what a line brings

abbrev entry : ℕ → List ℕ → Entry
entry x b = record { sender = x; bytes = b }

-- the front of a frame of round t with the bit b, which lists so many numbers
abbrev front : ℕ → ℕ → ℕ → List ℕ
front t b count = 0 ∷ 0 ∷ 0 ∷ t ∷ kind_of t ∷ b ∷ 0 ∷ count ∷ []

-- in round t 3 sends the bit b and lists nobody
abbrev tells : ℕ → ℕ → List Entry
tells t b = entry 3 (front t b 0) ∷ []

abbrev first_twice : List Entry → List Entry
first_twice [] = []
first_twice (e ∷ es) = e ∷ e ∷ es

abbrev junk : List ℕ
junk = 255 ∷ 3 ∷ 0 ∷ 17 ∷ 94 ∷ 200 ∷ 1 ∷ 8 ∷ 6 ∷ []

abbrev offered : List ℕ → List Input → List Input
offered b is = record { tray = junk; room = max_frame } ∷ record { tray = b; room = 263 } ∷ record { tray = b; room = max_frame } ∷ is

-- the trays of the rounds t and t + 1, past those of the guarantee
abbrev afterwards : ℕ → List Input
afterwards t = offered (packed t (entry 11 junk ∷ [])) (offered (packed (suc t) []) [])

-- lies t p: what the faulty ones send to p in round t
module _ (lies : ℕ → ℕ → List Entry) where
  abbrev brought : List View → ℕ → ℕ → List Entry
  brought vs p t = first_twice (from_others p vs) ++ lies t p

  abbrev stepped : List View → ℕ → List View
  stepped vs t = map (λ (v : View). cond (undecided v) (next v (brought vs v.own t)) v) vs

  -- p's inputs of n rounds from t on, where the proper ones have the states vs in round t, and two after these
  abbrev inputs : ℕ → ℕ → ℕ → List View → List Input
  inputs p t zero vs = afterwards t
  inputs p t (suc n) vs = offered (packed t (brought vs p t)) (inputs p (suc t) n (stepped vs t))

-- ---- the lines

abbrev nobody_lies : ℕ → ℕ → List Entry
nobody_lies t p = []

abbrev pub one : List Controller
one = controller 7 1 refl (inputs nobody_lies 7 1 5 (start_view 7 1 ∷ [])) ∷ []

-- proper 5, 7, 9 with the bits 0, 1, 1, through the rounds of a line of four
module _ (lies : ℕ → ℕ → List Entry) where
  abbrev inputs_of : ℕ → List Input
  inputs_of p = inputs lies p 1 14 (starts 0 1 1)

  abbrev three : List Controller
  three = controller 5 0 refl (inputs_of 5) ∷ controller 7 1 refl (inputs_of 7) ∷ controller 9 1 refl (inputs_of 9) ∷ []

abbrev pub joining : List Controller
joining = three from_three

-- The faulty 3 keeps itself echoed by one proper controller or two, and in round 11 gives its own voice to 5 alone: only there it has two thirds. A voice is a
-- roster or a turn that lists just 3.
abbrev voice : ℕ → ℕ → Bool
voice t p = (eqb t 2 && eqb p 7) || (eqb t 5 && eqb p 9) || (eqb t 8 && not (eqb p 9)) || (eqb t 11 && eqb p 5)

-- it sends init to 5, its voice in the rounds of lists, and void frames to whom it denies that: silence would count as the receiver's own list. With values it
-- tells 5 and 7 different things, and 9 has an entry of length 0; it is silent in the rest
abbrev dividing : ℕ → ℕ → List Entry
dividing t p =
    cond (eqb t 1) (cond (eqb p 5) (tells 1 2) [])
    (cond (eqb (t % 3) 2) (cond (voice t p) (entry 3 (front t 2 1 ++ 0 ∷ 0 ∷ 0 ∷ 3 ∷ []) ∷ []) (entry 3 junk ∷ []))
    (cond (eqb (t % 3) 0) (cond (eqb p 9) (entry 3 [] ∷ []) (tells t (cond (eqb p 5) 1 0)))
    []))

abbrev pub divided : List Controller
divided = three dividing

-- From round 3 on the faulty 3 agrees with each: it tells it the bit that it brought in itself. So each has two of three voices for its bit, two thirds.
abbrev flattering : ℕ → ℕ → List Entry
flattering t p = tells t (cond (ltb t 3) 2 (cond (eqb p 5) 0 1))

-- through the rounds of a line of three
abbrev flatteries : ℕ → List Input
flatteries p = inputs flattering p 1 11 (start_view 5 0 ∷ start_view 7 1 ∷ [])

abbrev pub five : Controller
five = controller 5 0 refl (flatteries 5)

abbrev pub seven : Controller
seven = controller 7 1 refl (flatteries 7)

abbrev pub flattered : List Controller
flattered = five ∷ seven ∷ []

-- ---- what the machine works out of them

-- some of l has a call that passes f
abbrev pub call_test : List Controller → (Controller → TrayCall → Bool) → Bool
call_test l f = some_pass (λ (c : Controller). some_pass (f c) c.trays) l

abbrev pub refused : ℕ → TrayCall → Bool
refused n k = eqb k.answer.refusal n

-- bytes that are no tray
abbrev pub junked : Controller → TrayCall → Bool
junked c k = refused 4 k

-- refused since the controller has decided, with the output that a frame needs: the state is not of round 195
abbrev pub quieted : Controller → TrayCall → Bool
quieted c k = refused 2 k && leb max_frame (length k.before) && ltb k.state.round 195

-- decides in round t, having worked the tray before
abbrev pub stops : ℕ → Controller → TrayCall → Bool
stops t c k = refused 0 k && not (eqb k.answer.state.decision 2) && eqb k.answer.state.round t

-- returns a state of round t that has the candidate x, or one that has it not
abbrev pub knows : ℕ → ℕ → Controller → TrayCall → Bool
knows t x c k = eqb k.answer.state.round t && mem x (candidates k.answer.state)

abbrev pub lacks : ℕ → ℕ → Controller → TrayCall → Bool
lacks t x c k = eqb k.answer.state.round t && not (mem x (candidates k.answer.state))

-- calls of a line with the faulty 3
module _ (line : List Controller) where
  -- the tray keeps the guarantee for the round that the controller is in
  abbrev pub keeps : Controller → TrayCall → Bool
  keeps c k = delivers_test line (3 ∷ []) c.number k.state.round k.tray

  -- a tray that keeps the guarantee is refused for want of room; another call works it
  abbrev pub short : Controller → TrayCall → Bool
  short c k = refused 3 k && keeps c k && some_pass (λ (l : TrayCall). refused 0 l && same l.tray k.tray) c.trays

  -- two entries under the proper number 7: both are the frame that it sent, as the tray keeps the guarantee
  abbrev pub repeated : Controller → TrayCall → Bool
  repeated c k = refused 0 k && keeps c k && eqb (count_if (eqb 7) (senders (entries k.tray))) 2

  -- a tray that keeps the guarantee is worked though none of the other proper ones has an entry in it
  abbrev pub deserted : Controller → TrayCall → Bool
  deserted c k =
      refused 0 k && keeps c k && all_pass (λ (d : Controller). not (mem d.number (senders (entries k.tray)))) line

-- of states: with the decision b, of a round up to t
abbrev pub decided_test : ℕ → ℕ → State → Bool
decided_test t b s = eqb s.decision b && leb s.round t

-- with no decision, or of a round past t
abbrev pub undecided_test : ℕ → State → Bool
undecided_test t s = ltb t s.round || eqb s.decision 2

pub record Tested : Type 0 where
  pub one_run : run_test one [] ≡ true
  pub one_quieted : call_test one quieted ≡ true
  pub joining_run : run_test joining (3 ∷ []) ≡ true
  pub joining_junked : call_test joining junked ≡ true
  pub joining_short : call_test joining (short joining) ≡ true
  pub joining_repeated : call_test joining (repeated joining) ≡ true
  pub joining_undecided : all_pass (λ (c : Controller). all_pass (undecided_test 3) (states c)) joining ≡ true
  pub joining_knows : call_test joining (knows 3 3) ≡ true
  pub joining_lacks : call_test joining (lacks 3 3) ≡ true
  pub divided_run : run_test divided (3 ∷ []) ≡ true
  pub divided_first : call_test divided (stops 12) ≡ true
  pub divided_last : call_test divided (stops 15) ≡ true
  pub divided_deserted : call_test divided (deserted divided) ≡ true
  pub flattered_network : network_test flattered (3 ∷ []) ≡ true
  pub five_decides : some_pass (decided_test 12 0) (states five) ≡ true
  pub seven_decides : some_pass (decided_test 12 1) (states seven) ≡ true

pub tested : Tested
unfolding round_of entry_count sender well_formed part entries
    kind_of chosen_by said_by bit_fits max_count length_fits round_fits head_fits body_fits read_refusal content frame_bytes
    third two_thirds sound_rules sound_beside sound frame_of stand_in receive firsts_after roster tally mentioned echoed joined candidates_after decides
    king_after bit_taken decision_after value_said value_two_thirds proposal_third proposal_two_thirds proposal bit_adopted strong_after opinion step
    start_refusal tray_refusal
tested =
    record {
      one_run = refl;
      one_quieted = refl;
      joining_run = refl;
      joining_junked = refl;
      joining_short = refl;
      joining_repeated = refl;
      joining_undecided = refl;
      joining_knows = refl;
      joining_lacks = refl;
      divided_run = refl;
      divided_first = refl;
      divided_last = refl;
      divided_deserted = refl;
      flattered_network = refl;
      five_decides = refl;
      seven_decides = refl;
    }
