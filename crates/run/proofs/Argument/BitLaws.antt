-- The laws of a bit instance: persistence, bits_agree, unanimity, validity.
-- Serves document 01's "The run of demand 3". Before anybody has decided a common correct king makes all bits equal. Equal bits stay equal, also when decided
-- ones have gone quiet. So every decision is that bit.
use Rattle.std.specs.Prelude.{ℕ, zero, suc, ◌-◌, ◌≤◌, ◌<◌, ◌≡◌, refl, true, false, ◌⊎◌, ◌≢◌, List}
use Rattle.std.proofs.Common.{sym, ap, ◌∙◌, true≢false, inl, inr, arith, eqb-true, eq-eqb, ne_eqb}
use Rattle.std.proofs.Math.Decide.{dec_lt, dec_le, ℕ_discrete, le_ind}
use Rattle.controller.specs.Lists.{In, Inside}
use Rattle.controller.specs.Laws.Lists.{true_or_false, list_some, list_search}
use Rattle.run.proofs.Argument.CountingLaws.{third_decidable, two_thirds_then_third, third_correct, two_thirds_carry, all_reach, two_thirds_apart}
use Rattle.run.proofs.Argument.Rotation.{Rotation, member_count, Works, RotationRules, AllWork, Undecided, CommonKing}
use Rattle.run.proofs.Argument.RotationLaws.{sent_or_own_holds, works_before, works_correct, works_undecided, decided_later, decided_deadline, common_king}
use Rattle.run.proofs.Argument.Bit.{BitInstance, values, proposals, ProposalThird, ProposalTwoThirds, BitRules, Agreed}

module _ (R : Rotation) (K : RotationRules R) (B : BitInstance) (L : BitRules R B) where
  open R use {correct, observers, live, decided, king}
  open K use {apart, few, watch, fresh, heard_value_lem, heard_propose_lem}
  open B use {value_from, proposal_from, opinion_from, value, proposal, own, strong, decision}
  open L use {value_of, value_own, proposal_of, proposal_own, opinion_of, brought, proposed, adopted, kept}
  open L use {fixed, strengthened, opined, taken, retained, decision_own, decision_held}

  -- ---- one's own bit is a bit

  own_bit_next : {p r : ℕ} → Works R p (suc r) → value p r < 2 → own p r < 2
  own_bit_next {p} {r} w bit = elim (true_or_false (decided p (suc r))) [
    | inl d ↦ rw (fixed w d) bit
    | inr d ↦
        let third? : (b : ℕ) → Dec (ProposalThird R B p r b) = λ b. third_decidable _ _ in
        elim (third? 0) [
          | yes a ↦ elim (third? 1) [
            | yes b ↦ rw (kept w d (λ t. b, λ t. a)) bit
            | no b ↦ rw (adopted 0 1 w d refl a b) (omega arith)
          ]
          | no a ↦ elim (third? 1) [
            | yes b ↦ rw (adopted 1 0 w d refl b a) (omega arith)
            | no b ↦ rw (kept w d (λ t. absurd (a t), λ t. absurd (b t))) bit
          ]
        ]
  ]

  value_bit_next : {p r : ℕ} → Works R p (suc r) → own p r < 2 → value p (suc r) < 2
  value_bit_next {p} {r} w bit = elim (true_or_false (decided p (suc r))) [
    | inl d ↦ rw (retained w (inl d)) bit
    | inr d ↦ elim (true_or_false (strong p r)) [
      | inl t ↦ rw (retained w (inr (inl t))) bit
      | inr t ↦ elim (dec_lt (opinion_from p r (king p r)) 2) [
        | yes h ↦ rw (taken w d t h) h
        | no h ↦ rw (retained w (inr (inr (omega arith)))) bit
      ]
    ]
  ]

  value_bit : {p : ℕ} (r : ℕ) → Works R p r → value p r < 2
  value_bit zero w = brought w.observes
  value_bit (suc r) w = value_bit_next w (own_bit_next w (value_bit r (works_before R K w)))

  own_bit : {p r : ℕ} → Works R p (suc r) → own p r < 2
  own_bit {r} w = own_bit_next w (value_bit r (works_before R K w))

  -- ---- only one bit's proposals reach a third, while all are at work

  value_as_sent : {p r s : ℕ} → AllWork R (suc r) → In p observers → In s correct → value_from p r s ≡ value s r
  value_as_sent all i j = value_of (all _ i) j (all _ (watch _ j)).alive

  proposal_as_sent : {p r s : ℕ} → AllWork R (suc r) → In p observers → In s correct → proposal_from p r s ≡ proposal s r
  proposal_as_sent all i j = proposal_of (all _ i) j (all _ (watch _ j)).alive

  -- two bits would need two thirds of the values each
  proposal_one : {p q r : ℕ} → AllWork R (suc r) → In p observers → In q observers → proposal p r < 2 → proposal q r < 2 → proposal p r ≡ proposal q r
  proposal_one {p} {q} {r} all i j a b = elim (ℕ_discrete (proposal p r) (proposal q r)) [
    | yes e ↦ e
    | no d ↦
        let same : (s : ℕ) → In s correct → value_from p r s ≡ value_from q r s =
        λ s k. value_as_sent all i k ∙ sym (value_as_sent all j k) in
        absurd (two_thirds_apart apart few (values R B p r (proposal p r)) (values R B q r (proposal q r))
        (heard_value_lem (all p i)) (heard_value_lem (all q j))
        (λ s k t. ne_eqb _ _ (λ e. d (sym (eqb-true _ _ t) ∙ same s k ∙ e)))
        ((proposed (all p i) a).0 refl)
        ((proposed (all q j) b).0 refl))
  ]

  -- what reaches a third some correct one has proposed
  third_had : {p r : ℕ} (b : ℕ) → Works R p (suc r) → ProposalThird R B p r b → (s : ℕ) × In s correct × (proposal_from p r s ≡ b)
  third_had {p} {r} b w third = let (s, j, t) = third_correct apart few (proposals R B p r b) (heard_propose_lem w) third in (s, j, eqb-true _ _ t)

  third_one : {p q r : ℕ} (b c : ℕ) → AllWork R (suc r) → In p observers → In q observers → b < 2 → c < 2
      → ProposalThird R B p r b → ProposalThird R B q r c → b ≡ c
  third_one {p} {q} {r} b c all i j h k third other =
      let (s, l, e) = third_had b (all p i) third in
      let (t, m, u) = third_had c (all q j) other in
      let says : proposal s r ≡ b = sym (proposal_as_sent all i l) ∙ e in
      let said : proposal t r ≡ c = sym (proposal_as_sent all j m) ∙ u in
      sym says ∙ proposal_one all (watch s l) (watch t m) (rw says h) (rw said k) ∙ said

  -- a bit that is alone in reaching a third is taken over
  own_alone : {p r : ℕ} (b : ℕ) → Works R p (suc r) → decided p (suc r) ≡ false → b < 2 → ProposalThird R B p r b
      → ((c : ℕ) → c < 2 → ProposalThird R B p r c → c ≡ b) → own p r ≡ b
  own_alone b w d h third alone = adopted b (1 - b) w d (omega arith) third (λ other. absurd (omega (arith, alone (1 - b) (omega arith) other)))

  -- ---- a common king makes all bits equal

  -- what reaches two thirds of the proposals at p reaches a third at q
  proposal_carry : {p q r : ℕ} (b : ℕ) → AllWork R (suc r) → In p observers → In q observers → ProposalTwoThirds R B p r b → ProposalThird R B q r b
  proposal_carry {p} {q} {r} b all i j two =
      let same : (s : ℕ) → In s correct → proposal_from p r s ≡ proposal_from q r s =
      λ s k. proposal_as_sent all i k ∙ sym (proposal_as_sent all j k) in
      two_thirds_carry apart few (proposals R B p r b) (proposals R B q r b) (heard_propose_lem (all p i)) (heard_propose_lem (all q j))
      (λ s k. rw (same s k)) two

  -- where somebody is strong, all have its bit
  strong_common : {p q r : ℕ} → AllWork R (suc r) → Undecided R (suc r) → In p observers → In q observers → strong p r ≡ true → own q r ≡ own p r
  strong_common {p} {q} {r} all before i j t =
      let b = own p r in
      let bit = own_bit (all p i) in
      let two = (strengthened (all p i)).0 t in
      own_alone b (all q j) (before q j) bit (proposal_carry b all i j two) (λ c h third. third_one c b all j i h bit third (two_thirds_then_third _ _ two))

  -- afterwards all have the king's bit: the strong ones had it, the others take it
  common_value : {k p r : ℕ} → In k correct → CommonKing R k r → In p observers → value p (suc r) ≡ own k r
  common_value {k} {p} {r} i c j =
      let l = watch k i in
      let all : AllWork R (suc r) = λ q m. works_undecided R K m c.early (c.before q m) in
      let says : opinion_from p r k ≡ own k r = opinion_of (all p j) i (all k l).alive ∙ opined (all k l) i (c.before k l) (c.all_name k l) in
      let heard : opinion_from p r (king p r) ≡ own k r = ap (opinion_from p r) (c.all_name p j) ∙ says in
      elim (true_or_false (strong p r)) [
        | inl t ↦ retained (all p j) (inr (inl t)) ∙ sym (strong_common all c.before j l t)
        | inr t ↦ taken (all p j) (c.before p j) t (rw heard (own_bit (all k l))) ∙ heard
      ]

  -- ---- equal bits stay equal: l is the correct ones, or all observers

  module _ {l : List ℕ} {b r : ℕ} (more : Inside correct l) (agreed : Agreed R B l b r) where
    agreed_bit : {p : ℕ} → In p l → Works R p (suc r) → b < 2
    agreed_bit i w = let v = works_before R K w in rw (agreed _ i v) at (value_bit r v)

    -- a quiet one counts as p itself, which has the bit too
    agreed_value_had : {p : ℕ} → In p l → Works R p (suc r) → (s : ℕ) → In s correct → value_from p r s ≡ b
    agreed_value_had i w s j =
        let sent : live s (suc r) ≡ true → value s r ≡ b = λ t. agreed s (more s j) (works_before R K (works_correct R K j w.timely t)) in
        sent_or_own_holds (λ x. x ≡ b) (live s (suc r)) (value_of w j) (value_own w j) sent (agreed _ i (works_before R K w))

    agreed_proposal : {p : ℕ} → In p l → Works R p (suc r) → proposal p r ≡ b
    agreed_proposal {p} i w =
        (proposed w (agreed_bit i w)).1 (all_reach apart few (values R B p r b) (heard_value_lem w) (λ s j. eq-eqb _ _ (agreed_value_had i w s j)))

    agreed_proposal_had : {p : ℕ} → In p l → Works R p (suc r) → (s : ℕ) → In s correct → proposal_from p r s ≡ b
    agreed_proposal_had i w s j =
        let sent : live s (suc r) ≡ true → proposal s r ≡ b = λ t. agreed_proposal (more s j) (works_correct R K j w.timely t) in
        sent_or_own_holds (λ x. x ≡ b) (live s (suc r)) (proposal_of w j) (proposal_own w j) sent (agreed_proposal i w)

    agreed_two_thirds : {p : ℕ} → In p l → Works R p (suc r) → ProposalTwoThirds R B p r b
    agreed_two_thirds {p} i w = all_reach apart few (proposals R B p r b) (heard_propose_lem w) (λ s j. eq-eqb _ _ (agreed_proposal_had i w s j))

    agreed_own : {p : ℕ} → In p l → Works R p (suc r) → own p r ≡ b
    agreed_own {p} i w =
        let alone : (c : ℕ) → c < 2 → ProposalThird R B p r c → c ≡ b =
        λ c h third. let (s, j, e) = third_had c w third in sym e ∙ agreed_proposal_had i w s j in
        elim (true_or_false (decided p (suc r))) [
          | inl d ↦ fixed w d ∙ agreed p i (works_before R K w)
          | inr d ↦ own_alone b w d (agreed_bit i w) (two_thirds_then_third _ _ (agreed_two_thirds i w)) alone
        ]

    -- all are strong, so nobody takes a king's opinion
    pub persistence : Agreed R B l b (suc r)
    persistence p i w = retained w (inr (inl ((strengthened w).1 (rw (agreed_own i w) (agreed_two_thirds i w))))) ∙ agreed_own i w

  agreed_later : {l : List ℕ} {b r : ℕ} (t : ℕ) → Inside correct l → r ≤ t → Agreed R B l b r → Agreed R B l b t
  agreed_later {l} {b} t more h agreed = le_ind (Agreed R B l b) agreed (λ s k. persistence more) t h

  -- ---- decisions

  -- who was undecided when all agreed decides that bit
  agreed_decision : {l : List ℕ} {b p r : ℕ} (t : ℕ) → Inside correct l → Inside l observers → Agreed R B l b r → r ≤ suc (member_count R)
      → ((q : ℕ) → In q l → decided q r ≡ false) → In p l → t ≤ suc (member_count R) → decided p t ≡ true → decision p t ≡ b
  agreed_decision zero more less agreed k before i h d = absurd (true≢false (sym d ∙ fresh (less _ i)))
  agreed_decision {p} {r} (suc t) more less agreed k before i h d = elim (true_or_false (decided p t)) [
    | inl u ↦ decision_held (less p i) (omega arith) u ∙ agreed_decision t more less agreed k before i (omega arith) u
    | inr u ↦
        let w = works_undecided R K (less p i) (omega arith) u in
        let begun : r ≤ t = elim (dec_le r t) [
          | yes l ↦ l
          | no l ↦ absurd (true≢false (sym (decided_later R K r (less p i) (omega arith) k d) ∙ before p i))
        ] in
        decision_own w u d ∙ agreed_later t more begun agreed p i w
  ]

  correct_some : (k : ℕ) × In k correct
  correct_some = list_some correct (omega (arith, few))

  -- every decision is the bit of a common king
  decision_common : (b : ℕ) × (b < 2) × ((p t : ℕ) → In p observers → t ≤ suc (member_count R) → decided p t ≡ true → decision p t ≡ b)
  decision_common =
      let (k, j) = correct_some in
      let (r, c) = common_king R K k j in
      let w = works_undecided R K (watch k j) c.early (c.before k (watch k j)) in
      let all : Agreed R B observers (own k r) (suc r) = λ p i v. common_value j c i in
      (own k r, own_bit w, λ p t i h d. agreed_decision t watch (λ q l. l) all (omega (arith, c.early)) c.before i h d)

  pub bits_agree : {p q s t : ℕ} → In p observers → In q observers → s ≤ suc (member_count R) → t ≤ suc (member_count R)
      → decided p s ≡ true → decided q t ≡ true → decision p s ≡ decision q t
  bits_agree {p} {q} {s} {t} i j h k d e = let all = decision_common.2 in all p s i h d ∙ sym (all q t j k e)

  -- the inputs are the correct ones': a listener's first bit is nobody's
  pub unanimity : {b p t : ℕ} → ((k : ℕ) → In k correct → value k 0 ≡ b) → In p observers → t ≤ suc (member_count R) → decided p t ≡ true → decision p t ≡ b
  unanimity same i h d =
      let (k, j) = correct_some in
      let e = decided_deadline R K (watch k j) in
      bits_agree i (watch k j) h (omega arith) d e
      ∙ agreed_decision (suc (member_count R)) (λ q l. l) watch (λ q l w. same q l) (omega arith) (λ q l. fresh (watch q l)) j (omega arith) e

  pub validity : {p t : ℕ} → In p observers → t ≤ suc (member_count R) → decided p t ≡ true → (k : ℕ) × In k correct × (decision p t ≡ value k 0)
  validity {p} {t} i h d =
      let b = decision p t in
      let bit : b < 2 = rw (decision_common.2 p t i h d) decision_common.1 in
      let same? : (k : ℕ) → In k correct → (b ≡ value k 0) ⊎ (b ≢ value k 0) = λ k j. elim (ℕ_discrete b (value k 0)) [ yes e ↦ inl e | no e ↦ inr e ] in
      elim (list_search correct same?) [
        | inl found ↦ found
        | inr other ↦ absurd (omega (arith, unanimity {b = 1 - b} (λ k j. omega (arith, brought (watch k j), other k j)) i h d))
      ]
