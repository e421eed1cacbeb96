-- The laws of the coordinator rotation: relay, a common king for each correct number, and a decision by phase n.
-- Serves document 01's "The run of demand 3". Document 002 counts rounds instead; numbers inserted below shift the places of candidates and break that count.
-- Here the first phase is looked for in which somebody has the correct number k at a place below the phase: in the phase before it all name k.
use Rattle.std.specs.Prelude.{ℕ, zero, suc, ◌≤◌, ◌<◌, ◌≡◌, refl, Bool, true, false, ◌⊎◌, ltb, length}
use Rattle.std.proofs.Common.{sym, ap, ◌∙◌, subst, inl, inr, arith, le-ltb}
use mathlib.Core.List.Memᴰ
use Rattle.std.proofs.Math.Decide.{dec_lt, le_ind}
use Rattle.controller.specs.Lists.{In, Inside, mem, count_if}
use Rattle.controller.specs.Laws.Lists.{true_or_false, in_mem, in_or_not, count_inside, count_short, no_repeats_left, inside_length}
use Rattle.controller.specs.Laws.Lists.{rising_no_repeats, rising_place, list_search, first_search, Images, images_differ}
use Rattle.run.proofs.Argument.CountingLaws.{two_thirds_then_third, two_thirds_carry, all_reach, third_inside}
use Rattle.run.proofs.Argument.Rotation.{Rotation, members, member_count, Works, mentions, ListTwoThirds}
use Rattle.run.proofs.Argument.Rotation.{RotationRules, AllWork, Undecided, Relayed, CommonKing}

-- What is had from a sender has a property, if it is what the sender sent, or where the sender is quiet one's own, and these have the property.
pub sent_or_own_holds : {A : Type 0} {had sent own : A} (P : A → Type 0) (live : Bool) → (live ≡ true → had ≡ sent) → (live ≡ false → had ≡ own)
    → (live ≡ true → P sent) → P own → P had
sent_or_own_holds P true as-sent as_own sent own = subst P (sym (as-sent refl)) (sent refl)
sent_or_own_holds P false as-sent as_own sent own = subst P (sym (as_own refl)) own

module _ (R : Rotation) where
  open R use {observers, candidates}

  -- the place of k among p's candidates after phase r
  abbrev place : ℕ → ℕ → ℕ → ℕ
  place k p r = count_if (λ y. ltb y k) (candidates p (suc r))

  -- in phase r somebody has k at a place below r
  abbrev Low : ℕ → ℕ → Type 0
  Low k r = (p : ℕ) × In p observers × (place k p r < r)

  -- nobody has
  abbrev High : ℕ → ℕ → Type 0
  High k r = (p : ℕ) → In p observers → r ≤ place k p r

  low_or_high : (k r : ℕ) → Low k r ⊎ High k r
  low_or_high k r = list_search observers (λ p i. elim (dec_lt (place k p r) r) [ yes h ↦ inl h | no h ↦ inr (omega arith) ])

module _ (R : Rotation) (K : RotationRules R) where
  open R use {correct, faulty, observers, live, decided, list_from, echoes, candidates, king}
  open K use {apart, few, watch, fresh, stays, awake, earlier, heard_turn_lem, list_of, list_own}
  open K use {roster_all, roster_only, none, rising, echo, candidate, decides, named}

  -- ---- who is at work, who has decided

  pub works_before : {p r : ℕ} → Works R p (suc r) → Works R p r
  works_before w = record { observes = w.observes; timely = omega (arith, w.timely); alive = earlier w }

  pub works_correct : {s r : ℕ} → In s correct → r ≤ member_count R → live s r ≡ true → Works R s r
  works_correct i h t = record { observes = watch _ i; timely = h; alive = t }

  pub works_undecided : {p r : ℕ} → In p observers → r ≤ member_count R → decided p r ≡ false → Works R p r
  works_undecided i h t = record { observes = i; timely = h; alive = awake i h t }

  pub decided_later : {p s : ℕ} (t : ℕ) → In p observers → s ≤ t → t ≤ suc (member_count R) → decided p s ≡ true → decided p t ≡ true
  decided_later {p} t i h k d =
      le_ind (λ t. t ≤ suc (member_count R) → decided p t ≡ true) (λ k. d) (λ s l before k. stays i (omega arith) (before (omega arith))) t h k

  -- ---- correct numbers are candidates from the first

  roster_had : {p k s : ℕ} → Works R p 0 → In k correct → In s correct → In k (list_from p 0 s)
  roster_had {p} {k} {s} w i j =
      sent_or_own_holds (In k) (live s 0) (list_of w j) (list_own w j) (λ t. roster_all (watch s j) i) (roster_all w.observes i)

  pub candidate_correct : {p k : ℕ} (r : ℕ) → Works R p r → In k correct → In k (candidates p (suc r))
  candidate_correct {p} {k} zero w i = (candidate w).1 (inr (all_reach apart few (mentions R p 0 k) (heard_turn_lem w) (λ s j. in_mem (roster_had w i j))))
  candidate_correct (suc r) w i = (candidate w).1 (inl (candidate_correct r (works_before w) i))

  -- ---- nobody from outside is echoed or becomes a candidate

  lists_inside : {p r : ℕ} → Works R p r → ((u : ℕ) → Works R u r → Inside (echoes u r) (members R))
      → (s : ℕ) → In s correct → Inside (list_from p r s) (members R)
  lists_inside {p} {r} w sent s i =
      sent_or_own_holds (λ l. Inside l (members R)) (live s r) (list_of w i) (list_own w i) (λ t. sent s (works_correct i w.timely t)) (sent p w)

  pub echo_inside : {p : ℕ} (r : ℕ) → Works R p r → Inside (echoes p r) (members R)
  echo_inside zero w x i = roster_only w.observes x i
  echo_inside {p} (suc r) w x i =
      let v = works_before w in
      third_inside apart few (list_from p r) (heard_turn_lem v) (lists_inside v (λ u. echo_inside r)) x ((echo v).0 i).1

  candidate_inside_next : {p : ℕ} (r : ℕ) → Works R p r → Inside (candidates p r) (members R) → Inside (candidates p (suc r)) (members R)
  candidate_inside_next {p} r w before x i = elim ((candidate w).0 i) [
    | inl old ↦ before x old
    | inr two ↦ third_inside apart few (list_from p r) (heard_turn_lem w) (lists_inside w (λ u. echo_inside r)) x (two_thirds_then_third _ _ two)
  ]

  pub candidate_inside : {p : ℕ} (r : ℕ) → Works R p r → Inside (candidates p (suc r)) (members R)
  candidate_inside zero w = candidate_inside_next zero w (λ x i. absurd (Memᴰ.not-nil (rw (none w.observes) at i)))
  candidate_inside (suc r) w = candidate_inside_next (suc r) w (candidate_inside r (works_before w))

  pub candidate_length : {p r : ℕ} → Works R p r → length (candidates p (suc r)) ≤ member_count R
  candidate_length {p} {r} w = inside_length (candidates p (suc r)) (rising_no_repeats (candidates p (suc r)) (rising w)) (candidate_inside r w)

  -- ---- relay

  list_as_sent : {p r s : ℕ} → AllWork R r → In p observers → In s correct → list_from p r s ≡ echoes s r
  list_as_sent all i j = list_of (all _ i) j (all _ (watch _ j)).alive

  -- where x reaches two thirds and was no correct one's candidate, every correct one echoes it
  echo_all : {p x r : ℕ} → AllWork R r → In p observers → ListTwoThirds R p r x → ((s : ℕ) → In s correct → ¬ In x (candidates s r))
      → (s : ℕ) → In s correct → In x (echoes s (suc r))
  echo_all {p} {x} {r} all i two new s j =
      let w = all s (watch s j) in
      let same : (t : ℕ) → In t correct → mentions R p r x t ≡ mentions R s r x t =
      λ t k. ap (mem x) (list_as_sent all i k ∙ sym (list_as_sent all (watch s j) k)) in
      (echo w).1 (new s j, two_thirds_carry apart few (mentions R p r x) (mentions R s r x) (heard_turn_lem (all p i)) (heard_turn_lem w) same two)

  relay_next : {x : ℕ} (r : ℕ) → AllWork R (suc r) → Relayed R x r → Relayed R x (suc r)
  relay_next {x} r all known p q i j c =
      let now : AllWork R r = λ u k. works_before (all u k) in
      let w = all q j in
      elim ((candidate (now p i)).0 c) [
        | inl old ↦ (candidate w).1 (inl (known p q i j old))
        | inr two ↦ elim (list_search correct (λ s k. in_or_not x (candidates s r))) [
          | inl found ↦ (candidate w).1 (inl (known _ q (watch _ found.1) j found.2))
          | inr new ↦
              let has : (s : ℕ) → In s correct → mentions R q (suc r) x s ≡ true = λ s k. rw (list_as_sent all j k) (in_mem (echo_all now i two new s k)) in
              (candidate w).1 (inr (all_reach apart few (mentions R q (suc r) x) (heard_turn_lem w) has))
        ]
      ]

  pub relay : {x : ℕ} (r : ℕ) → AllWork R (suc r) → Relayed R x (suc r)
  relay zero all = relay_next zero all (λ p q i j c. absurd (Memᴰ.not-nil (rw (none i) at c)))
  relay (suc r) all = relay_next (suc r) all (relay r (λ p i. works_before (all p i)))

  -- ---- a common king for each correct number

  place_length : {k p r : ℕ} → In k correct → Works R p r → place R k p r < length (candidates p (suc r))
  place_length {k} i w = count_short (λ y. ltb y k) k (candidate_correct _ w i) (le-ltb k k (omega arith))

  place_relay : (k : ℕ) {p q : ℕ} (r : ℕ) → AllWork R (suc r) → In p observers → In q observers → place R k p r ≤ place R k q (suc r)
  place_relay k {p} {q} r all i j =
      let once = rising_no_repeats (candidates p (suc r)) (rising (works_before (all p i))) in
      count_inside (λ y. ltb y k) (λ y. ltb y k) (candidates p (suc r)) once (λ x. relay r all p q i j) (λ x c t. t)

  place_named : {k p r : ℕ} → In k correct → Works R p r → decided p (suc r) ≡ false → place R k p r ≡ r → king p r ≡ k
  place_named {k} {p} {r} j w d here = named w d ∙ (rw here at (rising_place k (candidates p (suc r)) (rising w) (candidate_correct r w j)))

  -- while k's place is nowhere below the phase there are too many candidates to decide
  high_undecided : {k : ℕ} (s : ℕ) → In k correct → s ≤ suc (member_count R) → ((r : ℕ) → r < s → High R k r) → Undecided R s
  high_undecided zero j h high p i = fresh i
  high_undecided (suc s) j h high p i =
      let before = high_undecided s j (omega arith) (λ r l. high r (omega arith)) p i in
      let w = works_undecided i (omega arith) before in
      elim (true_or_false (decided p (suc s))) [
        | inl d ↦ let short : length (candidates p (suc s)) ≤ s = (decides w before).0 d in absurd (omega (arith, high s (omega arith) p i, place_length j w))
        | inr d ↦ d
      ]

  -- In the phase before the first low one no place is below the phase, and by relay none is above it.
  low_common : {k : ℕ} (s : ℕ) → In k correct → s ≤ member_count R → Low R k s → ((r : ℕ) → r < s → High R k r) → (r : ℕ) × CommonKing R k r
  low_common zero j h low high = absurd (omega (arith, low.2))
  low_common {k} (suc r) j h low high =
      let before : Undecided R (suc r) = high_undecided (suc r) j (omega arith) high in
      let all : AllWork R (suc r) = λ p i. works_undecided i h (before p i) in
      let here : (p : ℕ) → In p observers → place R k p r ≡ r = λ p i. omega (arith, low.2, high r (omega arith) p i, place_relay k r all i low.1) in
      (r, record { early = h; before = before; all_name = λ p i. place_named j (works_before (all p i)) (before p i) (here p i) })

  -- without a low phase k itself would have more than n candidates in phase n
  pub common_king : (k : ℕ) → In k correct → (r : ℕ) × CommonKing R k r
  common_king k j = elim (first_search (suc (member_count R)) (low_or_high R k)) [
    | inl found ↦ low_common found.0 j (omega (arith, found.1)) found.2 found.3
    | inr high ↦
        let i = watch k j in
        let w = works_undecided i (omega arith) (high_undecided (member_count R) j (omega arith) (λ r l. high r (omega arith)) k i) in
        absurd (omega (arith, high (member_count R) (omega arith) k i, place_length j w, candidate_length w))
  ]

  -- a phase has one king, so different correct numbers have different phases
  pub common_king_one : {k l r : ℕ} → In k correct → CommonKing R k r → CommonKing R l r → k ≡ l
  common_king_one {k} i c d = sym (c.all_name k (watch k i)) ∙ d.all_name k (watch k i)

  -- before anybody decides there are as many phases with a common correct king as correct ones, and each is the king of one of them
  pub common_phases : Images (CommonKing R) correct
  common_phases = images_differ {Q = CommonKing R} correct (no_repeats_left correct faulty apart) common_king (λ k l r i. common_king_one i)

  -- ---- the deadline

  -- everybody has decided after phase n: in round 3 + 3n
  pub decided_deadline : {p : ℕ} → In p observers → decided p (suc (member_count R)) ≡ true
  decided_deadline {p} i = elim (true_or_false (decided p (member_count R))) [
    | inl d ↦ stays i (omega arith) d
    | inr d ↦ let w = works_undecided i (omega arith) d in (decides w d).1 (candidate_length w)
  ]
