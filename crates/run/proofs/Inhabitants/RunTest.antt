-- A test that says of lists of calls that they are a run: each condition of `Network` and `Run` as a Bool, so that for given lists the machine works it out.
--     all_pass f l, some_pass f l   all of l pass the test f; some of l pass it
--     differ_test l                 l has no number twice
--     sent_test c t b               c sent the frame b for round t
--     delivers_test l f p t b       the tray b of round t to p keeps the guarantee
--     network_test l f              the proper ones l and the faulty ones f make a network
--     run_test l f                  and a run: few are faulty
use Rattle.std.specs.Prelude.{ℕ, ◌+◌, ◌*◌, ◌≤◌, Bool, true, false, not, ◌&&◌, ◌||◌, List, [], ◌∷◌, ◌≢◌, ◌≡◌, refl, eqb, leb, ltb, length}
use Rattle.std.proofs.Common.{true≢false, inl, inr, sym, ap, ◌∙◌, subst, eqb-true, eq-eqb, ne_eqb, leb-true, ltb-true, le-ltb}
use Rattle.std.proofs.Math.Bool.{and-eq-true_iff, or-true}
use mathlib.Core.List.Memᴰ
use Rattle.std.proofs.lemmas.Bool.{not-true, eqb-false}
use Rattle.controller.specs.Bytes.{Entry, well_formed, round_of, entries}
use Rattle.controller.specs.Lists.{In, mem, NoRepeats}
use Rattle.controller.specs.State.{view, undecided, same}
use Rattle.controller.specs.Received.{senders}
use Rattle.controller.specs.Calls.{sent_bytes}
use Rattle.controller.specs.Laws.Lists.{true_or_false, mem_in, mem_out}
use Rattle.controller.specs.Laws.State.{same_gives}
use Rattle.controller.specs.declared.state.State.{State}
use Rattle.run.specs.Run.{Member, TrayCall, Accepted, Controller, states, Sent, everyone, Delivers, Network, Run}
use Rattle.run.proofs.Argument.Calls.{state_sent, sent_state}

-- ---- tests of lists

abbrev pub all_pass : {A : Type 0} → (A → Bool) → List A → Bool
all_pass f [] = true
all_pass f (x ∷ l) = f x && all_pass f l

abbrev pub some_pass : {A : Type 0} → (A → Bool) → List A → Bool
some_pass f [] = false
some_pass f (x ∷ l) = f x || some_pass f l

abbrev pub differ_test : List ℕ → Bool
differ_test [] = true
differ_test (x ∷ l) = not (mem x l) && differ_test l

pub all_pass_lem : {A : Type 0} (f : A → Bool) (l : List A) → all_pass f l ≡ true → (x : A) → Member x l → f x ≡ true
all_pass_lem f [] h x i = absurd (Memᴰ.not-nil i)
all_pass_lem f (y ∷ l) h x i =
    let both = (and-eq-true_iff (f y) (all_pass f l)).0 h in
    elim (Memᴰ.cases_cons i) [ inl e ↦ ap f e ∙ both.0 | inr j ↦ all_pass_lem f l both.1 x j ]

pub some_pass_lem : {A : Type 0} (f : A → Bool) (l : List A) → some_pass f l ≡ true → (x : A) × Member x l × (f x ≡ true)
some_pass_lem f [] h = absurd (true≢false (sym h))
some_pass_lem f (y ∷ l) h = elim (true_or_false (f y)) [
  | inl t ↦ (y, Memᴰ.head refl, t)
  | inr t ↦ let rest = some_pass_lem f l (rw t at h) in (rest.0, Memᴰ.tail rest.1, rest.2)
]

pub pass_some : {A : Type 0} (f : A → Bool) (l : List A) → (x : A) → Member x l → f x ≡ true → some_pass f l ≡ true
pass_some f [] x i t = absurd (Memᴰ.not-nil i)
pass_some f (y ∷ l) x i t = elim (Memᴰ.cases_cons i) [
  | inl e ↦ rw (sym (ap f e) ∙ t)
  | inr j ↦ rw (pass_some f l x j t) (or-true (f y))
]

-- the second of two tests, where the first fails
pub or_right : (a b : Bool) → (a || b) ≡ true → a ≡ false → b ≡ true
or_right true b h e = absurd (true≢false e)
or_right false b h e = h

pub differ_no_repeats : (l : List ℕ) → differ_test l ≡ true → NoRepeats l
differ_no_repeats [] h = tt
differ_no_repeats (x ∷ l) h =
    let both = (and-eq-true_iff (not (mem x l)) (differ_test l)).0 h in
    (mem_out l (not-true (mem x l) both.0), differ_no_repeats l both.1)

-- ---- frames

-- the state of round t, with which a frame was sent
abbrev sender_test : ℕ → State → Bool
sender_test t s = eqb s.round t && undecided (view s)

abbrev frame_test : ℕ → List ℕ → State → Bool
frame_test t b s = sender_test t s && same b (sent_bytes (view s))

abbrev sent_test : Controller → ℕ → List ℕ → Bool
sent_test c t b = some_pass (frame_test t b) (states c)

sent_tested : (c : Controller) (t : ℕ) (b : List ℕ) → sent_test c t b ≡ true → Sent c t b
sent_tested c t b h =
    let found = some_pass_lem (frame_test t b) (states c) h in
    let s = found.0 in
    let (sender, frame) = (and-eq-true_iff (sender_test t s) (same b (sent_bytes (view s)))).0 found.2 in
    let (round, active) = (and-eq-true_iff (eqb s.round t) (undecided (view s))).0 sender in
    let bytes = same_gives b (sent_bytes (view s)) frame in
    subst (λ u. Sent c u b) (eqb-true s.round t round) (subst (Sent c s.round) (sym bytes) (state_sent c s found.1 active))

-- whether c sent a frame for round t
abbrev sends_test : ℕ → Controller → Bool
sends_test t c = some_pass (sender_test t) (states c)

sends_tested : (c : Controller) (t : ℕ) (b : List ℕ) → Sent c t b → sends_test t c ≡ true
sends_tested c t b sent =
    let f = sent_state c sent in
    pass_some (sender_test t) (states c) f.state f.listed (rw (eq-eqb _ _ f.round) f.active)

module _ (correct : List Controller) (faulty : List ℕ) where
  -- ---- the line's guarantee

  abbrev other_test : ℕ → ℕ → Bool
  other_test receiver x = mem x (everyone correct faulty) && not (eqb x receiver)

  abbrev present_test : ℕ → ℕ → List Entry → Controller → Bool
  present_test receiver t es c = eqb c.number receiver || (not (sends_test t c) || mem c.number (senders es))

  abbrev entry_test : ℕ → Entry → Controller → Bool
  entry_test t e c = not (eqb e.sender c.number) || sent_test c t e.bytes

  abbrev pub delivers_test : ℕ → ℕ → List ℕ → Bool
  delivers_test receiver t b =
      eqb (round_of b) t && well_formed b && all_pass (other_test receiver) (senders (entries b)) && all_pass (present_test receiver t (entries b)) correct
      && all_pass (λ (e : Entry). all_pass (entry_test t e) correct) (entries b)

  other_tested : (receiver x : ℕ) → other_test receiver x ≡ true → In x (everyone correct faulty) × (x ≢ receiver)
  other_tested receiver x h =
      let both = (and-eq-true_iff (mem x (everyone correct faulty)) (not (eqb x receiver))).0 h in
      (mem_in (everyone correct faulty) both.0, eqb-false x receiver (not-true (eqb x receiver) both.1))

  pub delivers_tested : (receiver t : ℕ) (b : List ℕ) → delivers_test receiver t b ≡ true → Delivers correct faulty receiver t b
  delivers_tested receiver t b h =
      let es = entries b in
      let (h₃, frames) = (and-eq-true_iff _ (all_pass (λ (e : Entry). all_pass (entry_test t e) correct) es)).0 h in
      let (h₂, present) = (and-eq-true_iff _ (all_pass (present_test receiver t es) correct)).0 h₃ in
      let (h₁, others) = (and-eq-true_iff _ (all_pass (other_test receiver) (senders es))).0 h₂ in
      let (round, packed) = (and-eq-true_iff (eqb (round_of b) t) (well_formed b)).0 h₁ in
      record {
        packed = packed;
        round = eqb-true (round_of b) t round;
        others = λ x i. other_tested receiver x (all_pass_lem (other_test receiver) (senders es) others x i);
        present = λ c i ne f sent.
            let passed = all_pass_lem (present_test receiver t es) correct present c i in
            let other = or_right (eqb c.number receiver) _ passed (ne_eqb c.number receiver ne) in
            mem_in (senders es) (or_right (not (sends_test t c)) _ other (ap not (sends_tested c t f sent)));
        frames = λ e i c j sender.
            let passed = all_pass_lem (entry_test t e) correct (all_pass_lem (λ (e : Entry). all_pass (entry_test t e) correct) es frames e i) c j in
            sent_tested c t e.bytes (or_right (not (eqb e.sender c.number)) _ passed (ap not (eq-eqb e.sender c.number sender)));
      }

  -- ---- the run

  abbrev size : ℕ
  size = length (everyone correct faulty)

  abbrev work_test : ℕ → ℕ → TrayCall → Bool
  work_test receiver t k = eqb k.answer.refusal 0 && delivers_test receiver t k.tray

  -- a frame was sent with each state that has not decided
  abbrev state_test : Controller → State → Bool
  state_test c s = ltb (2 + 3 * size) s.round || (not (undecided (view s)) || some_pass (work_test c.number s.round) c.trays)

  abbrev works_test : Controller → Bool
  works_test c = all_pass (state_test c) (states c)

  pub works_tested : (c : Controller) → works_test c ≡ true → (t : ℕ) → t ≤ 2 + 3 * size → (b : List ℕ) → Sent c t b
      → (k : TrayCall) × Member k c.trays × Accepted k × Delivers correct faulty c.number t k.tray
  works_tested c h t early b sent =
      let f = sent_state c sent in
      let s = f.state in
      let e = f.round in
      let tested = all_pass_lem (state_test c) (states c) h s f.listed in
      let timely = or_right (ltb (2 + 3 * size) s.round) _ tested (le-ltb (2 + 3 * size) s.round (rw e early)) in
      let passed = or_right (not (undecided (view s))) _ timely (ap not f.active) in
      let (k, j, w) = some_pass_lem (work_test c.number s.round) c.trays passed in
      let (accepted, delivers) = (and-eq-true_iff (eqb k.answer.refusal 0) _).0 w in
      let kept = delivers_tested c.number s.round k.tray delivers in
      (k, j, eqb-true k.answer.refusal 0 accepted, subst (λ u. Delivers correct faulty c.number u k.tray) e kept)

  abbrev pub network_test : Bool
  network_test =
      leb 1 size && leb size 64 && differ_test (everyone correct faulty) && not (mem 0 (everyone correct faulty)) && all_pass works_test correct

  abbrev pub network_tested : network_test ≡ true → Network correct faulty
  network_tested h =
      let (h₃, works) = (and-eq-true_iff _ (all_pass works_test correct)).0 h in
      let (h₂, nonzero) = (and-eq-true_iff _ (not (mem 0 (everyone correct faulty)))).0 h₃ in
      let (h₁, differ) = (and-eq-true_iff _ (differ_test (everyone correct faulty))).0 h₂ in
      let (some, most) = (and-eq-true_iff (leb 1 size) (leb size 64)).0 h₁ in
      record {
        size = (leb-true 1 size some, leb-true size 64 most);
        differ = differ_no_repeats (everyone correct faulty) differ;
        nonzero = λ x i z. mem_out (everyone correct faulty) (not-true (mem 0 (everyone correct faulty)) nonzero) (Memᴰ.cast (sym z) i);
        works = λ c i. works_tested c (all_pass_lem works_test correct works c i);
      }

  abbrev pub run_test : Bool
  run_test = network_test && ltb (3 * length faulty) size

  abbrev pub run_tested : run_test ≡ true → Run
  run_tested h =
      let (network, few) = (and-eq-true_iff network_test (ltb (3 * length faulty) size)).0 h in
      record { correct = correct; faulty = faulty; network = network_tested network; few = ltb-true (3 * length faulty) size few }
