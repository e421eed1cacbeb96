-- Laws that follow a controller from call to call, where the machine would take too long to work all of them out: what a worked call makes of known lists.
--     sending xs b             an entry under each of xs, with the bytes b
--     Stands n t h c e v       v is an undecided state of the controller n in round t; those heard are h, the candidates c, the echoes e
--     Reached n t h c e s      s is a sound state whose view stands so
--     offered t es             the tray of round t with the entries es, and room for any frame
--     Packs n t es             that tray is well packed and has just these entries, none of them under 0 or n
--     total s is               what the lengths that the calls on the inputs is return add up to, where the first is handed the state s
--     LeadsTo n t es h c e s   the call with s on that tray is worked: it sends the longest frame of round t + 1 and leaves a state with the lists h, c, e
use Rattle.std.proofs.lemmas.Bool.{not-true, lt-leb}
use Rattle.std.specs.Prelude.{ℕ, suc, ◌+◌, ◌*◌, ◌≤◌, ◌<◌, true, false, not, cond, ◌&&◌, ◌||◌, ◌≡◌, refl, length, replicate}
use Rattle.std.proofs.Math.Bool.{and-eq-true_iff, and-false, or-true}
use mathlib.Core.List.Memᴰ
use mathlib.Core.List.{sum}
use Rattle.std.proofs.Common.{inl, inr, ◌∙◌, arith, List, [], ◌∷◌, map}
use Rattle.std.specs.Prelude.{Some}
use Rattle.std.proofs.Math.Path.{sym, ap, subst}
use Rattle.std.proofs.Math.Decide.{ℕ_discrete}
use Rattle.controller.specs.Bytes.{max_frame, max_numbers, last_round, content, one, under, under_one}
use Rattle.controller.specs.Bytes.{Entry, round_of, entry_count, well_formed, entries}
use Rattle.controller.specs.Lists.{In, Rising, mem, count_if}
use Rattle.controller.specs.Thirds.{third, two_thirds}
use Rattle.controller.specs.State.{View, Rotor, BitPart, view, undecided, sound}
use Rattle.controller.specs.Received.{ReceivedLists, frame_of, senders, receive, list_in, lists}
use Rattle.controller.specs.Rotation.{tally, echoed, candidates_after, decides, hearing}
use Rattle.controller.specs.Bit.{decision_after}
use Rattle.controller.specs.Rules.{next_round, next}
use Rattle.controller.specs.Calls.{sent_bytes}
use Rattle.controller.specs.Examples.{packed}
use Rattle.controller.specs.Laws.First.{next_stays_sound}
use Rattle.controller.specs.Laws.Lists.{in_mem, mem_in, out_mem, mem_out, in_or_not, rising_same}
use Rattle.controller.specs.Laws.Received.{heard_some, received_own, received_other, received_silent, frame_list, stand_in_list}
use Rattle.controller.specs.Laws.Refusals.{Fits, tray_fits}
use Rattle.controller.specs.Laws.Rotation.{echoed_in, echoed_rising, candidates_in_lem, candidates_rising}
use Rattle.controller.specs.Laws.Rules.{step_value, step_propose, step_turn, step_heard, phase_is}
use Rattle.controller.specs.Laws.State.{sound_gives}
use Rattle.controller.specs.declared.state.State.{State}
use Rattle.run.specs.LinkUse.{answered, bytes_of, longest}
use Rattle.run.proofs.Argument.Calls.{makes_view, makes_size, accepted_makes}
use Rattle.run.proofs.Argument.LinkUse.{sent_longest}
use Rattle.run.proofs.Argument.StepsBit.{count_same}
use Rattle.run.proofs.Argument.StepsRotation.{turn_round, turn_round_is, list_sent}
use Rattle.run.proofs.Inhabitants.RunTest.{or_right}
use Rattle.run.proofs.Inhabitants.Played.{Input, tray_call, played}

-- ---- lists that are received

abbrev pub sending : List ℕ → List ℕ → List Entry
sending xs b = map (λ (x : ℕ). record { sender = x; bytes = b }) xs

senders_sending : (xs b : List ℕ) → senders (sending xs b) ≡ xs
senders_sending [] b = refl
senders_sending (x ∷ xs) b = ap (λ l. x ∷ l) (senders_sending xs b)

under_sending : (xs b : List ℕ) (y : ℕ) → In y xs → under y (sending xs b) ≡ one b
under_sending xs b y i =
    let entry : ℕ → Entry = λ x. record { sender = x; bytes = b } in
    under_one y (entry y) (sending xs b) (Memᴰ.map entry i) refl (λ f j e. ap (λ (g : Entry). g.bytes) (sym (Memᴰ.of_map entry xs j).2))

-- those of xs send the bytes b, which list a, and the others are silent, so that they count as having sent the own list o
module _ (v : View) (xs b : List ℕ) {h a o : List ℕ} (heard : v.rotor.heard ≡ h) (others : ¬ In v.own xs)
    (read : list_in (content b v.round) ≡ a) (sent : list_in (Some (frame_of v)) ≡ o) where
  list_from_lem : (x y : ℕ) → In y h → mem x (list_in ((receive v (sending xs b)).from y)) ≡ cond (mem y xs) (mem x a) (mem x o)
  list_from_lem x y i = elim (in_or_not y xs) [
    | inl j ↦
        let found = under_sending xs b y j in
        rw (in_mem j, received_other v (sending xs b) y (λ e. others (Memᴰ.cast (sym e) j)) (rw found), found, read)
    | inr out ↦ rw (out_mem xs out) (elim (ℕ_discrete y v.own) [
      | yes e ↦ rw (e, received_own v (sending xs b), sent)
      | no other ↦
          let silent = received_silent v (sending xs b) y other (subst (In y) (sym heard) i) (λ j. out (subst (In y) (senders_sending xs b) j)) in
          rw (silent, stand_in_list v, sent)
    ])
  ]

  tally_from : (x : ℕ) → (receive v (sending xs b)).heard ≡ h
      → tally (lists (receive v (sending xs b))) x ≡ count_if (λ y. cond (mem y xs) (mem x a) (mem x o)) h
  unfolding tally
  tally_from x known = rw known (count_same _ _ h (list_from_lem x))

-- ---- lists that come of them

-- a list is known where it is known of each number whether it passes
module _ (c : Rotor) (l : ReceivedLists) (somebody : 0 < length l.heard) where
  echoed_are : (e : List ℕ) → Rising e → ((x : ℕ) → (third (tally l x) (length l.heard) && not (mem x c.candidates)) ≡ mem x e)
      → echoed c l ≡ e
  echoed_are e up test = rising_same (echoed c l) e (echoed_rising c l) up
      (λ x i.
      let (reached, new) = (echoed_in c l somebody).0 i in
      mem_in e (sym (test x) ∙ (and-eq-true_iff _ _).1 (reached, ap not (out_mem c.candidates new))))
      (λ x i.
      let (reached, new) = (and-eq-true_iff _ (not (mem x c.candidates))).0 (test x ∙ in_mem i) in
      (echoed_in c l somebody).1 (reached, mem_out c.candidates (not-true _ new)))

  candidates_are : Rising c.candidates → (m : List ℕ) → Rising m
      → ((x : ℕ) → (mem x c.candidates || two_thirds (tally l x) (length l.heard)) ≡ mem x m) → candidates_after c l ≡ m
  candidates_are old m up test = rising_same (candidates_after c l) m (candidates_rising c l old) up
      (λ x i. mem_in m (sym (test x) ∙ elim ((candidates_in_lem c l somebody).0 i) [ inl j ↦ rw (in_mem j) | inr t ↦ rw t (or-true (mem x c.candidates)) ]))
      (λ x i. (candidates_in_lem c l somebody).1 (elim (in_or_not x c.candidates) [
        | inl j ↦ inl j
        | inr new ↦ inr (or_right _ _ (test x ∙ in_mem i) (out_mem c.candidates new))
      ]))

-- ---- states

pub record Stands (n t : ℕ) (h c e : List ℕ) (v : View) : Type 0 where
  pub own : v.own ≡ n
  pub round : v.round ≡ t
  pub active : undecided v ≡ true
  pub heard : v.rotor.heard ≡ h
  pub candidates : v.rotor.candidates ≡ c
  pub echoes : v.rotor.echoes ≡ e

pub record Reached (n t : ℕ) (h c e : List ℕ) (s : State) : Type 0 where
  pub good : sound s ≡ true
  pub stands : Stands n t h c e (view s)

module _ {n t : ℕ} {h c e : List ℕ} {v : View} (stands : Stands n t h c e v) where
  pub stands_sends : length (sent_bytes v) ≡ longest (length e) t
  stands_sends = sent_longest v stands.active ∙ rw (stands.round, stands.echoes)

  -- who makes a propose or a turn with an empty tray keeps its lists
  stands_on : (b : BitPart) → b.decision ≡ v.bit.decision → Stands n (suc t) h c e (next_round v (hearing (receive v []).heard v.rotor) b)
  unfolding receive
  stands_on b same =
      record {
        own = stands.own;
        round = omega (arith, stands.round);
        active = rw same stands.active;
        heard = stands.heard;
        candidates = stands.candidates;
        echoes = stands.echoes;
      }

  pub propose_stands : (r : ℕ) → t ≡ 3 + 3 * r → Stands n (suc t) h c e (next v [])
  propose_stands r at = rw (step_propose v (receive v []) r (stands.round ∙ at)) (stands_on _ refl)

  pub turn_stands : (r : ℕ) → t ≡ 4 + 3 * r → Stands n (suc t) h c e (next v [])
  turn_stands r at = rw (step_turn v (receive v []) r (stands.round ∙ at)) (stands_on _ refl)

-- a sound state that counts lists: those of xs send the bytes b, which list a, and the others are silent
module _ {n : ℕ} (r : ℕ) {h c e a : List ℕ} {s : State} (before : Reached n (turn_round r) h c e s) (xs b : List ℕ) (others : mem n xs ≡ false)
    (read : list_in (content b (turn_round r)) ≡ a) (known : (receive (view s) (sending xs b)).heard ≡ h) where
  abbrev v : View
  v = view s

  abbrev stands : Stands n (turn_round r) h c e v
  stands = before.stands

  abbrev received : ReceivedLists
  received = lists (receive v (sending xs b))

  -- how many lists have x
  abbrev counted : ℕ → ℕ
  counted x = count_if (λ y. cond (mem y xs) (mem x a) (mem x e)) h

  tally_is : (x : ℕ) → tally received x ≡ counted x
  tally_is x =
      let apart : ¬ In v.own xs = rw stands.own (mem_out xs others) in
      let sent : list_in (Some (frame_of v)) ≡ e = frame_list v ∙ rw (stands.round, list_sent r) stands.echoes in
      tally_from v xs b stands.heard apart (ap (λ t. list_in (content b t)) stands.round ∙ read) sent x known

  -- so the candidates become m and the echoes w, where m has too many numbers for a decision in phase r
  pub value_stands : (m w : List ℕ) → Rising m → Rising w → r < length m
      → ((x : ℕ) → ((third (counted x) (length h) && not (mem x c)) ≡ mem x w) × ((mem x c || two_thirds (counted x) (length h)) ≡ mem x m))
      → Stands n (suc (turn_round r)) h m w (next v (sending xs b))
  unfolding decision_after decides
  value_stands m w m-rises w-rises early test =
      let good = sound_gives s before.good in
      let somebody = heard_some v (sending xs b) good in
      let old = stands.candidates in
      let at = stands.round ∙ turn_round_is r in
      let echoes = echoed_are v.rotor received somebody w w-rises (λ x. rw (tally_is x, known, old) (test x).0) in
      let candidates = candidates_are v.rotor received somebody good.candidates.rises m m-rises (λ x. rw (tally_is x, known, old) (test x).1) in
      rw (step_value v (receive v (sending xs b)) r at) (record {
        own = stands.own;
        round = omega (arith, stands.round);
        active = rw (candidates, phase_is v r at, lt-leb (length m) r early, and-false (undecided v)) stands.active;
        heard = known;
        candidates = candidates;
        echoes = echoes;
      })

-- ---- trays

abbrev pub offered : ℕ → List Entry → Input
offered t es = record { tray = packed t es; room = max_frame }

pub record Packs (n t : ℕ) (es : List Entry) : Type 0 where
  pub well : well_formed (packed t es) ≡ true
  pub round : round_of (packed t es) ≡ t
  pub back : entries (packed t es) ≡ es
  pub nonzero : mem 0 (senders es) ≡ false
  pub others : mem n (senders es) ≡ false

pub packs_nothing : (n t : ℕ) → Packs n t []
unfolding round_of entry_count well_formed entries
packs_nothing n t = record { well = refl; round = omega arith; back = refl; nonzero = refl; others = refl }

-- ---- calls

unfoldable pub total : State → List Input → ℕ
total s is = bytes_of (answered (played s is))

pub total_nothing : (s : State) → total s [] ≡ 0
unfolding total sum
total_nothing s = refl

pub record LeadsTo (n t : ℕ) (es : List Entry) (h c e : List ℕ) (s : State) : Type 0 where
  pub after : State
  pub reached : Reached n (suc t) h c e after
  pub adds : (is : List Input) → total s (offered t es ∷ is) ≡ longest max_numbers (suc t) + total after is

-- a tray that leaves lists of at most 64 numbers is worked
module _ {n t : ℕ} {es : List Entry} {s : State} {h₀ c₀ e₀ : List ℕ} (packs : Packs n t es) (before : Reached n t h₀ c₀ e₀ s) where
  abbrev bytes : List ℕ
  bytes = packed t es

  pub works : {h c e : List ℕ} → t < last_round → Stands n (suc t) h c e (next (view s) es)
      → (length h ≤ max_numbers) × (length c ≤ max_numbers) × (length e ≡ max_numbers) → LeadsTo n t es h c e s
  unfolding total sum
  works {h} {c} {e} early made few =
      let v = view s in
      let stands = before.stands in
      let heard : (receive v es).heard ≡ h = sym (step_heard v (receive v es)) ∙ made.heard in
      let fits : Fits s bytes =
      record {
        state = before.good;
        early = omega (arith, stands.round);
        active = stands.active;
        packed = packs.well;
        round = packs.round ∙ sym stands.round;
        nonzero = rw packs.back (mem_out (senders es) packs.nonzero);
        others = rw (packs.back, stands.own) (mem_out (senders es) packs.others);
        heard = rw (packs.back, heard) few.0;
        candidates = rw (packs.back, made.candidates) few.1;
        echoes = rw (packs.back, made.echoes) (omega (arith, few.2));
      } in
      let k = tray_call s bytes (replicate max_frame 0) in
      let returns = accepted_makes k (tray_fits s bytes max_frame fits) in
      let after = subst (Stands n (suc t) h c e) (sym (makes_view returns ∙ ap (next v) packs.back)) made in
      record {
        after = k.answer.state;
        reached = record { good = rw returns.state (next_stays_sound s bytes fits); stands = after };
        adds = λ is. ap (λ m. m + total k.answer.state is) (makes_size returns ∙ stands_sends after ∙ ap (λ m. longest m (suc t)) few.2);
      }
