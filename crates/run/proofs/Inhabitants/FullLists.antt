-- A controller that sends just what is claimed to be the most: document 02, "A13. Link use of a run", "the figure is 194 headers and 65 full lists". So no
-- lower figure can be claimed for any trays.
--     members                64 numbers, the own one, 64, among them; all are heard from the first tray on
--     strangers              64 others, which nobody has
--     speakers               just a third of the members: 22
--     entries_in r           what the tray of round 2 + 3r has, whose lists phase r counts: the same frame, frame_in r, from each of senders_in r
--     phases r n             the trays of the n phases from r on, those between the rounds of lists empty
--     busiest                the controller that gets these; limit_met, that it sends so much
--     candidates_in r        the candidates before phase r; echoes_in r, the echoes; spoken r, what the speakers list in that phase
--     voices, Becomes        how many lists have a number, and what comes of it
-- In phase 0 all others are silent, which counts as the own list: all the members become candidates, and with 64 of them there is no decision before phase
-- 64. In phase 1 the speakers list the strangers, a third: these are echoed. After that the speakers send void frames and the others are silent, so the own
-- list has 42 voices, more than a third and less than two thirds: the strangers are echoed again in each phase and never become candidates.
use Rattle.std.specs.Prelude.{ℕ, zero, suc, ◌+◌, ◌≤◌, ◌<◌, Bool, true, false, not, cond, ◌&&◌, ◌||◌, ◌≡◌, refl, length}
use mathlib.Core.List.{sum}
use Rattle.std.proofs.Common.{inl, inr, sym, ◌∙◌, subst, arith, List, [], ◌∷◌}
use Rattle.controller.specs.Bytes.{max_numbers, Entry, round_of, entry_count, sender, well_formed, part, entries, kind_of, chosen_by, said_by}
use Rattle.controller.specs.Bytes.{bit_fits, max_count, length_fits, round_fits, head_fits, body_fits, read_refusal, content, frame_bytes}
use Rattle.controller.specs.Lists.{Rising, mem, count_if}
use Rattle.controller.specs.Thirds.{third, two_thirds}
use Rattle.controller.specs.State.{View, view, start_view}
use Rattle.controller.specs.Received.{frame_of, receive, list_in}
use Rattle.controller.specs.Rotation.{roster}
use Rattle.controller.specs.Rules.{next}
use Rattle.controller.specs.Laws.Lists.{true_or_false, mem_in, rising_gives}
use Rattle.controller.specs.Laws.Rules.{step_roster}
use Rattle.controller.specs.declared.state.State.{State}
use Rattle.run.specs.LinkUse.{longest, link_limit, bytes_sent}
use Rattle.run.specs.Run.{Controller}
use Rattle.run.proofs.Argument.Calls.{makes_view, makes_size, start_returns, start_listed, state_sound}
use Rattle.run.proofs.Argument.LinkUse.{up_to}
use Rattle.run.proofs.Argument.StepsRotation.{turn_round, turn_round_is}
use Rattle.run.proofs.Inhabitants.RunTest.{all_pass_lem}
use Rattle.run.proofs.Inhabitants.Played.{Input, controller}
use Rattle.run.proofs.Inhabitants.CallByCall.{sending, Stands, stands_sends, value_stands, propose_stands, turn_stands}
use Rattle.run.proofs.Inhabitants.CallByCall.{offered, Packs, packs_nothing, Reached, total, total_nothing, works}

-- ---- the run

-- n numbers from a on
abbrev pub from : ℕ → ℕ → List ℕ
from a zero = []
from a (suc n) = a ∷ from (suc a) n

unfoldable pub members : List ℕ
members = from 1 64

unfoldable pub strangers : List ℕ
strangers = from 257 64

unfoldable pub speakers : List ℕ
speakers = from 1 22

abbrev pub inits : List Entry
inits = sending (from 1 63) (0 ∷ 0 ∷ 0 ∷ 1 ∷ 1 ∷ 2 ∷ 0 ∷ 0 ∷ [])

-- in round 5, without an opinion
unfoldable pub strangers_turn : List ℕ
strangers_turn = frame_bytes (record { round = 5; said = said_by 5 2; numbers = strangers })

-- in phase 0 there are none
abbrev pub senders_in : ℕ → List ℕ
senders_in zero = []
senders_in (suc r) = speakers

-- from phase 2 on they are of length 0, and void
abbrev pub frame_in : ℕ → List ℕ
frame_in zero = []
frame_in (suc zero) = strangers_turn
frame_in (suc (suc r)) = []

abbrev pub entries_in : ℕ → List Entry
entries_in r = sending (senders_in r) (frame_in r)

unfoldable pub phases : ℕ → ℕ → List Input
phases r zero = []
phases r (suc n) =
    offered (turn_round r) (entries_in r) ∷ offered (suc (turn_round r)) [] ∷ offered (suc (suc (turn_round r))) [] ∷ phases (suc r) n

abbrev pub busiest : Controller
busiest = controller 64 0 refl (offered 1 inits ∷ phases 0 64)

packs_inits : Packs 64 1 inits
unfolding round_of entry_count sender well_formed part entries
packs_inits = record { well = refl; round = refl; back = refl; nonzero = refl; others = refl }

packs_lists : (r : ℕ) → Packs 64 (turn_round r) (entries_in r)
unfolding round_of entry_count sender well_formed part entries frame_bytes said_by chosen_by strangers_turn strangers speakers
packs_lists zero = packs_nothing 64 2
packs_lists (suc zero) = record { well = refl; round = refl; back = refl; nonzero = refl; others = refl }
packs_lists (suc (suc r)) = record { well = refl; round = omega arith; back = refl; nonzero = refl; others = refl }

-- ---- its lists

abbrev candidates_in : ℕ → List ℕ
candidates_in zero = []
candidates_in (suc r) = members

abbrev echoes_in : ℕ → List ℕ
echoes_in zero = members
echoes_in (suc zero) = members
echoes_in (suc (suc r)) = strangers

abbrev spoken : ℕ → List ℕ
spoken zero = []
spoken (suc zero) = strangers
spoken (suc (suc r)) = []

-- as many numbers as a frame takes
abbrev Full : List ℕ → Type 0
Full l = Rising l × (length l ≡ max_numbers)

members_full : Full members
unfolding members
members_full = ((rising_gives members refl).0, refl)

strangers_full : Full strangers
unfolding strangers
strangers_full = ((rising_gives strangers refl).0, refl)

echoes_full : (r : ℕ) → Full (echoes_in r)
echoes_full zero = members_full
echoes_full (suc zero) = members_full
echoes_full (suc (suc r)) = strangers_full

-- no stranger is a member
no_member : (x : ℕ) → (mem x strangers && not (mem x members)) ≡ mem x strangers
unfolding members strangers
no_member x = elim (true_or_false (mem x strangers)) [
  | inl t ↦ rw t (all_pass_lem (λ x. not (mem x members)) strangers refl x (mem_in strangers t))
  | inr t ↦ rw t
]

-- ---- voices: a third of 64 is 22, two thirds are 43

-- those of xs list a number or not (a), and the own list, for which the other members count, has it or not (o)
voices : List ℕ → Bool → Bool → ℕ
voices xs a o = count_if (λ y. cond (mem y xs) a o) members

-- a number with so many voices, a candidate or not (c), is echoed or not (e) and is then a candidate or not (d)
abbrev Becomes : Bool → ℕ → Bool → Bool → Type 0
Becomes c count e d = ((third count 64 && not c) ≡ e) × ((c || two_thirds count 64) ≡ d)

-- phase 0, for a member or another (m)
silence : (m : Bool) → Becomes false (voices [] false m) m m
unfolding voices members third two_thirds
silence true = (refl, refl)
silence false = (refl, refl)

-- phase 1, for a stranger or another (s), a member or another (m)
spoken_of : (s m : Bool) → (s && not m) ≡ s → Becomes m (voices speakers s m) s m
unfolding voices members speakers third two_thirds
spoken_of true true h = (h, refl)
spoken_of true false h = (refl, refl)
spoken_of false true h = (refl, refl)
spoken_of false false h = (refl, refl)

-- the later phases
echoed_still : (s m : Bool) → (s && not m) ≡ s → Becomes m (voices speakers false s) s m
unfolding voices members speakers third two_thirds
echoed_still true true h = (h, refl)
echoed_still true false h = (refl, refl)
echoed_still false true h = (refl, refl)
echoed_still false false h = (refl, refl)

becomes : (r x : ℕ)
    → Becomes (mem x (candidates_in r)) (voices (senders_in r) (mem x (spoken r)) (mem x (echoes_in r))) (mem x (echoes_in (suc r))) (mem x members)
becomes zero x = silence (mem x members)
becomes (suc zero) x = spoken_of (mem x strangers) (mem x members) (no_member x)
becomes (suc (suc r)) x = echoed_still (mem x strangers) (mem x members) (no_member x)

-- ---- a round of lists

list_read : (r : ℕ) → list_in (content (frame_in r) (turn_round r)) ≡ spoken r
unfolding kind_of chosen_by said_by bit_fits max_count length_fits round_fits head_fits body_fits read_refusal content frame_bytes strangers_turn strangers
list_read zero = refl
list_read (suc zero) = refl
list_read (suc (suc r)) = refl

heard_still : (r : ℕ) (v : View) → v.rotor.heard ≡ members → (receive v (entries_in r)).heard ≡ members
unfolding receive members speakers
heard_still zero v e = e
heard_still (suc r) v e = rw e

own_silent : (r : ℕ) → mem 64 (senders_in r) ≡ false
unfolding speakers
own_silent zero = refl
own_silent (suc r) = refl

-- where phase r begins
abbrev InPhase : ℕ → State → Type 0
InPhase r s = Reached 64 (turn_round r) members (candidates_in r) (echoes_in r) s

lists_stand : (r : ℕ) (s : State) → InPhase r s → r < 64 → Stands 64 (suc (turn_round r)) members members (echoes_in (suc r)) (next (view s) (entries_in r))
unfolding voices
lists_stand r s before early =
    let size = members_full.1 in
    value_stands r before (senders_in r) (frame_in r) (own_silent r) (list_read r) (heard_still r (view s) before.stands.heard)
    members (echoes_in (suc r)) members_full.0 (echoes_full (suc r)).0 (omega (arith, size)) (λ x. rw size (becomes r x))

-- ---- the sum

-- no tray is refused for the length of a list, and each list sent is full
sizes : (r : ℕ) → (length members ≤ max_numbers) × (length members ≤ max_numbers) × (length (echoes_in r) ≡ max_numbers)
sizes r = (omega (arith, members_full.1), omega (arith, members_full.1), (echoes_full r).1)

-- what was allowed up to phase r was sent, and so it goes on
phases_total : (n r : ℕ) (s : State) → r + n ≤ 64 → InPhase r s → up_to 64 (turn_round r) + total s (phases r n) ≡ up_to 64 (turn_round (r + n))
unfolding phases
phases_total zero r s early h = let end : r + 0 ≡ r = omega arith in rw end (omega (arith, total_nothing s))
phases_total (suc n) r s early h =
    let t = turn_round r in
    let at = turn_round_is r in
    let value = works (packs_lists r) h (omega arith) (lists_stand r s h (omega arith)) (sizes (suc r)) in
    let valued = value.reached in
    let propose = works (packs_nothing 64 (suc t)) valued (omega arith) (propose_stands valued.stands r (omega arith)) (sizes (suc r)) in
    let proposed = propose.reached in
    let turn = works (packs_nothing 64 (suc (suc t))) proposed (omega arith) (turn_stands proposed.stands r (omega arith)) (sizes (suc r)) in
    let end : suc r + n ≡ r + suc n = omega arith in
    let rest = rw end at (phases_total n (suc r) turn.after (omega arith) turn.reached) in
    let others = phases (suc r) n in
    let last = offered (suc (suc t)) [] ∷ others in
    omega (arith, value.adds (offered (suc t) [] ∷ last), propose.adds last, turn.adds others, rest)

-- ---- the first tray

start_stands : Stands 64 1 (64 ∷ []) [] [] (start_view 64 0)
start_stands = record { own = refl; round = refl; active = refl; heard = refl; candidates = refl; echoes = refl }

roster_stands : Stands 64 2 members [] members (next (start_view 64 0) inits)
unfolding members roster receive frame_of kind_of chosen_by said_by bit_fits max_count length_fits round_fits head_fits body_fits read_refusal content
roster_stands =
    rw (step_roster (start_view 64 0) (receive (start_view 64 0) inits) refl)
    (record { own = refl; round = refl; active = refl; heard = refl; candidates = refl; echoes = refl })

-- "18,192, for any trays", and for these no less
pub limit_met : bytes_sent busiest ≡ link_limit max_numbers
unfolding total sum kind_of max_count
limit_met =
    let returns = start_returns busiest in
    let same = sym (makes_view returns) in
    let start : Reached 64 1 (64 ∷ []) [] [] busiest.start.answer.state =
    record { good = state_sound busiest _ (start_listed busiest); stands = subst (Stands 64 1 (64 ∷ []) [] []) same start_stands } in
    let init : busiest.start.answer.length ≡ longest 64 1 = makes_size returns ∙ stands_sends start.stands in
    let made = subst (λ v. Stands 64 2 members [] members (next v inits)) same roster_stands in
    let roster = works packs_inits start (omega arith) made ((sizes 0).0, omega arith, (sizes 0).2) in
    let rest = phases_total 64 0 roster.after (omega arith) roster.reached in
    omega (arith, init, roster.adds (phases 0 64), rest)
