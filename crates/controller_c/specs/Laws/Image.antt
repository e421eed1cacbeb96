-- Laws of images: laying out and taking apart are inverse to each other on sound states.
--     taken_apart-laid_out   a sound state is what its image is taken apart to
--     laid_out-taken_apart   a sound image is what the state in it is laid out to
--     laid_out-sound         the image of a sound state is sound
use Rattle.std.specs.Prelude.{ℕ, zero, suc, ◌+◌, ◌*◌, ◌-◌, ◌≤◌, ◌<◌, true, false, ◌≡◌, ◌≢◌, eqb, take, drop, replicate}
use Rattle.std.proofs.Math.Bool.{and-eq-true_iff}
use Rattle.std.proofs.Math.Path.{refl, sym, ap}
use Rattle.std.proofs.Common.{List, [], ◌∷◌, ◌++◌, ◌∙◌, eqb-true, eq-eqb, ne_eqb, append_assoc, arith}
use Rattle.std.proofs.Common.{length-drop, length-take, take-append-drop, take_at, get_or-drop}
use Rattle.std.proofs.Math.ListN.{get_or-eq_default, length, get_or, length-append}
use Rattle.std.proofs.lemmas.List.{length-replicate, drop-append-le}
use Rattle.std.proofs.Math.Seq.{slice, drop_at, length-take-le, get_or-take}
use Rattle.wire.specs.Limits.{max_numbers, number_width}
use Rattle.wire.specs.Numbers.{listed}
use Rattle.wire.specs.Words.{Below}
use Rattle.wire.specs.Laws.Words.{byte_drop}
use Rattle.wire.specs.declared.frame.Numbers.{Numbers}
use Rattle.controller.specs.State.{first_rounds, sound_list, sound_rules, sound}
use Rattle.controller.specs.Laws.State.{ListTests, sound_list_gives, sound_list_test, rules_give, rules_heard, rules_stored}
use Rattle.controller.specs.Laws.State.{sound_rules_lem, sound_beside_lem, beside_gives, since_places}
use Rattle.controller.specs.declared.state.State.{State}
use Rattle.controller_c.specs.Image.{image_bytes, heard_at, candidates_at, echoes_at, since_at, reserved_at, count_bytes, list_width, Sized}
use Rattle.controller_c.specs.Image.{head_bytes, list_bytes}
use Rattle.controller_c.specs.Image.{zeros_from, laid_out, places_at, list_at, rounds_at, taken_apart, zeros, shaped, sound_image}
use Rattle.controller_c.specs.Words.{number_at, numbers_at}
use Rattle.controller_c.specs.Laws.Words.{numbers_bytes_length, number_back, numbers_at_lem, numbers_back, number_drop, numbers_drop}

-- ---- lengths

-- the lists of a sound state
list_sized : (n : Numbers) → sound_list n ≡ true → Sized n
list_sized n h = let t = sound_list_gives n h in record { few = omega (arith, t.used, t.list.short); places = t.places }

pub record SizedLists (s : State) : Type 0 where
  pub heard : Sized s.heard
  pub candidates : Sized s.candidates
  pub echoes : Sized s.echoes

pub rules_sized : (s : State) → sound_rules s ≡ true → SizedLists s
rules_sized s h =
    let g = rules_give s h in
    let e = sym (rules_stored s h) in
    record {
      heard = list_sized s.heard (ap (λ (t : State). sound_list t.heard) e ∙ sound_list_test (listed s.heard) g.heard);
      candidates = list_sized s.candidates (ap (λ (t : State). sound_list t.candidates) e ∙ sound_list_test (listed s.candidates) g.candidates);
      echoes = list_sized s.echoes (ap (λ (t : State). sound_list t.echoes) e ∙ sound_list_test (listed s.echoes) g.echoes);
    }

pub sound_sized : (s : State) → sound s ≡ true → SizedLists s
sound_sized s h = rules_sized s (sound_rules_lem s h)

pub list_bytes_length : (n : Numbers) → Sized n → length (list_bytes n) ≡ list_width
list_bytes_length n z = let p = z.places in omega (arith, numbers_bytes_length n.at)

pub zeros_from_length : (at : ℕ) → length (zeros_from at) ≡ image_bytes - at
unfolding zeros_from
zeros_from_length at = length-replicate (image_bytes - at) 0

module _ (s : State) (z : SizedLists s) (places : length s.since ≡ max_numbers) where
  pub laid_out_length : length (laid_out s) ≡ image_bytes
  unfolding laid_out
  laid_out_length =
      omega (
        arith,
        length-append (list_bytes s.heard) (list_bytes s.candidates ++ (list_bytes s.echoes ++ (s.since ++ zeros_from reserved_at))),
        length-append (list_bytes s.candidates) (list_bytes s.echoes ++ (s.since ++ zeros_from reserved_at)),
        length-append (list_bytes s.echoes) (s.since ++ zeros_from reserved_at),
        length-append s.since (zeros_from reserved_at),
        list_bytes_length s.heard z.heard,
        list_bytes_length s.candidates z.candidates,
        list_bytes_length s.echoes z.echoes,
        zeros_from_length reserved_at,
      )

-- ---- soundness

shaped_gives : (b : List ℕ) → shaped b ≡ true → (length b ≡ image_bytes) × (zeros (drop reserved_at b) ≡ true)
unfolding shaped
shaped_gives b h =
    let e = (and-eq-true_iff (eqb (length b) image_bytes) (zeros (drop reserved_at b))).0 h in
    (eqb-true _ _ e.0, e.1)

pub shaped_length : (b : List ℕ) → shaped b ≡ true → length b ≡ image_bytes
shaped_length b h = (shaped_gives b h).0

pub whole_shaped : (b : List ℕ) → length b ≡ image_bytes → shaped b ≡ zeros (drop reserved_at b)
unfolding shaped
whole_shaped b h = rw (eq-eqb _ _ h)

pub other_unshaped : (b : List ℕ) → length b ≢ image_bytes → shaped b ≡ false
unfolding shaped
other_unshaped b h = rw (ne_eqb _ _ h)

-- what a sound image is, test by test
pub record SoundImage (b : List ℕ) : Type 0 where
  pub whole : length b ≡ image_bytes
  pub reserved : zeros (drop reserved_at b) ≡ true
  pub state : sound (taken_apart b) ≡ true

pub sound_image_gives : (b : List ℕ) → sound_image b ≡ true → SoundImage b
unfolding sound_image
sound_image_gives b h =
    let e = (and-eq-true_iff (shaped b) (sound (taken_apart b))).0 h in
    let t = shaped_gives b e.0 in
    record { whole = t.0; reserved = t.1; state = e.1 }

-- ---- what the calls that show a state read

-- behind a list there are only zeros
padded_at : (l : List ℕ) (k i : ℕ) → get_or (l ++ replicate k 0) i 0 ≡ get_or l i 0
padded_at [] zero i = refl
padded_at [] (suc k) zero = refl
padded_at [] (suc k) (suc i) = padded_at [] k i
padded_at (x ∷ l) k zero = refl
padded_at (x ∷ l) k (suc i) = padded_at l k i

module _ (b : List ℕ) (h : sound_image b ≡ true) where
  state_sound : sound (taken_apart b) ≡ true
  state_sound = (sound_image_gives b h).state

  abbrev heard : Numbers
  heard = list_at b heard_at

  abbrev rounds : List ℕ
  rounds = first_rounds (taken_apart b)

  heard_tests : ListTests heard
  heard_tests = sound_list_gives heard (rules_heard (taken_apart b) (sound_rules_lem (taken_apart b) state_sound))

  -- the number at place i of heard, and the round beside it
  pub number_read_lem : (i : ℕ) → i < max_numbers → number_at b (heard_at + count_bytes + number_width * i) ≡ get_or (listed heard) i 0
  unfolding places_at
  number_read_lem i l =
      sym (numbers_at_lem b (heard_at + count_bytes) max_numbers i l)
      ∙ ap (λ (n : Numbers). get_or n.at i 0) (sym heard_tests.back)
      ∙ padded_at (listed heard) (max_numbers - length (listed heard)) i

  pub round_read : (i : ℕ) → i < max_numbers → get_or b (since_at + i) 0 ≡ get_or rounds i 0
  unfolding rounds_at
  round_read i l =
      sym (get_or-drop since_at (take reserved_at b) i 0 ∙ get_or-take reserved_at b (since_at + i) 0 (omega arith))
      ∙ ap (λ (w : List ℕ). get_or w i 0) (sym (beside_gives (number_at b 0) (listed heard) (rounds_at b) (sound_beside_lem (taken_apart b) state_sound)).1)
      ∙ padded_at rounds (max_numbers - length rounds) i

  -- past the places there is none
  pub number_past : (i : ℕ) → max_numbers ≤ i → get_or (listed heard) i 0 ≡ 0
  number_past i l = get_or-eq_default (listed heard) 0 {n = i} (omega (arith, heard_tests.list.short))

  pub round_past : (i : ℕ) → max_numbers ≤ i → get_or rounds i 0 ≡ 0
  round_past i l = get_or-eq_default rounds 0 {n = i} (omega (arith, heard_tests.list.short, length-take (length (listed heard)) (rounds_at b)))

-- ---- laid out, then taken apart

-- a list behind a prefix
list_back : (p : List ℕ) (n : Numbers) (r : List ℕ) (k : ℕ) → length p ≡ k → Sized n → list_at (p ++ (list_bytes n ++ r)) k ≡ n
unfolding places_at
list_back p n r k e z =
    let b = p ++ (list_bytes n ++ r) in
    let whole : numbers_at b k (suc (length n.at)) ≡ n.len ∷ n.at = rw e at (numbers_back p (n.len ∷ n.at) r) in
    let len : number_at b k ≡ n.len = cc in
    let at : numbers_at b (k + count_bytes) (length n.at) ≡ n.at = cc in
    let places : places_at b (k + count_bytes) ≡ n.at = ap (numbers_at b (k + count_bytes)) (sym z.places) ∙ at in
    λ i. record { len = len i; at = places i }

module _ (s : State) (z : SizedLists s) (places : length s.since ≡ max_numbers) where
  heard_back : list_at (laid_out s) heard_at ≡ s.heard
  unfolding laid_out
  heard_back = list_back (head_bytes s) s.heard (list_bytes s.candidates ++ (list_bytes s.echoes ++ (s.since ++ zeros_from reserved_at))) heard_at refl
      z.heard

  candidates_back : list_at (laid_out s) candidates_at ≡ s.candidates
  unfolding laid_out
  candidates_back =
      let p = head_bytes s ++ list_bytes s.heard in
      let r = list_bytes s.echoes ++ (s.since ++ zeros_from reserved_at) in
      ap (λ (b : List ℕ). list_at b candidates_at) (sym (append_assoc (head_bytes s) (list_bytes s.heard) (list_bytes s.candidates ++ r)))
      ∙ list_back p s.candidates r candidates_at (omega (arith, list_bytes_length s.heard z.heard)) z.candidates

  echoes_back : list_at (laid_out s) echoes_at ≡ s.echoes
  unfolding laid_out
  echoes_back =
      let l = list_bytes s.heard ++ list_bytes s.candidates in
      let r = list_bytes s.echoes ++ (s.since ++ zeros_from reserved_at) in
      let size : length (head_bytes s ++ l) ≡ echoes_at =
      omega (
        arith,
        length-append (list_bytes s.heard) (list_bytes s.candidates),
        list_bytes_length s.heard z.heard,
        list_bytes_length s.candidates z.candidates,
      ) in
      ap (λ (b : List ℕ). list_at b echoes_at)
      (ap (λ (t : List ℕ). head_bytes s ++ t) (sym (append_assoc (list_bytes s.heard) (list_bytes s.candidates) r)) ∙ sym (append_assoc (head_bytes s) l r))
      ∙ list_back (head_bytes s ++ l) s.echoes (s.since ++ zeros_from reserved_at) echoes_at size z.echoes

  -- what stands before the record
  abbrev front : List ℕ
  front = head_bytes s ++ (list_bytes s.heard ++ (list_bytes s.candidates ++ list_bytes s.echoes))

  front_length : length front ≡ since_at
  front_length =
      omega (
        arith,
        length-append (list_bytes s.heard) (list_bytes s.candidates ++ list_bytes s.echoes),
        length-append (list_bytes s.candidates) (list_bytes s.echoes),
        list_bytes_length s.heard z.heard,
        list_bytes_length s.candidates z.candidates,
        list_bytes_length s.echoes z.echoes,
      )

  used_length : length (front ++ s.since) ≡ reserved_at
  used_length = omega (arith, length-append front s.since, front_length)

  -- the record, with the bytes before it and those behind it
  around : (front ++ s.since) ++ zeros_from reserved_at ≡ laid_out s
  unfolding laid_out
  around =
      let rest = s.since ++ zeros_from reserved_at in
      let lists = list_bytes s.heard ++ (list_bytes s.candidates ++ list_bytes s.echoes) in
      append_assoc front s.since (zeros_from reserved_at)
      ∙ append_assoc (head_bytes s) lists rest
      ∙ ap (λ (t : List ℕ). head_bytes s ++ t)
      (append_assoc (list_bytes s.heard) (list_bytes s.candidates ++ list_bytes s.echoes) rest
      ∙ ap (λ (t : List ℕ). list_bytes s.heard ++ t) (append_assoc (list_bytes s.candidates) (list_bytes s.echoes) rest))

  since_back : rounds_at (laid_out s) ≡ s.since
  unfolding rounds_at
  since_back =
      ap (slice since_at reserved_at) (sym around)
      ∙ ap (drop since_at) (take_at (front ++ s.since) (zeros_from reserved_at) reserved_at used_length)
      ∙ drop_at front s.since since_at front_length

  reserved_zero : drop reserved_at (laid_out s) ≡ zeros_from reserved_at
  reserved_zero = ap (drop reserved_at) (sym around) ∙ drop_at (front ++ s.since) (zeros_from reserved_at) reserved_at used_length

  fields_back : taken_apart (laid_out s) ≡ s
  unfolding laid_out
  fields_back =
      let own = number_back s.own in
      let round = number_back s.round in
      let king = number_back s.king in
      let heard = heard_back in
      let candidates = candidates_back in
      let echoes = echoes_back in
      let since = since_back in
      λ i.
      record {
        own = own i;
        round = round i;
        bit = s.bit;
        said = s.said;
        strong = s.strong;
        king = king i;
        decision = s.decision;
        heard = heard i;
        candidates = candidates i;
        echoes = echoes i;
        since = since i;
      }

pub taken_apart-laid_out : (s : State) → sound s ≡ true → taken_apart (laid_out s) ≡ s
taken_apart-laid_out s h = fields_back s (sound_sized s h) (since_places s h)

-- ---- taken apart, then laid out

zeros_are : (l : List ℕ) → zeros l ≡ true → replicate (length l) 0 ≡ l
zeros_are [] h = refl
zeros_are (x ∷ l) h =
    let e = (and-eq-true_iff (eqb x 0) (zeros l)).0 h in
    let head : 0 ≡ x = sym (eqb-true x 0 e.0) in
    let tail = zeros_are l e.1 in
    cc

zeros_replicate : (n : ℕ) → zeros (replicate n 0) ≡ true
zeros_replicate zero = refl
zeros_replicate (suc n) = zeros_replicate n

places_are : (b : List ℕ) (at n : ℕ) → n ≡ max_numbers → places_at b at ≡ numbers_at b at n
unfolding places_at
places_are b at n e = ap (numbers_at b at) (sym e)

reserved_are : (b : List ℕ) → length b ≡ image_bytes → zeros (drop reserved_at b) ≡ true → zeros_from reserved_at ≡ drop reserved_at b
unfolding zeros_from
reserved_are b e h =
    let size : length (drop reserved_at b) ≡ image_bytes - reserved_at = omega (arith, length-drop reserved_at b) in
    ap (λ (n : ℕ). replicate n 0) (sym size) ∙ zeros_are (drop reserved_at b) h

module _ (b : List ℕ) (bytes : Below 256 b) where
  list_drop : (at n : ℕ) → n ≡ max_numbers → at + list_width ≤ length b → list_bytes (list_at b at) ++ drop (at + list_width) b ≡ drop at b
  list_drop at n e h =
      let size : at + number_width * suc n ≡ at + list_width = omega arith in
      rw (places_are b (at + count_bytes) n e, ← size) (numbers_drop b bytes at (suc n) (omega arith))

  head_drop : heard_at ≤ length b → head_bytes (taken_apart b) ++ drop heard_at b ≡ b
  head_drop h =
      rw (
        ← byte_drop b 15 16 refl (omega arith),
        number_drop b bytes 11 (omega arith),
        ← byte_drop b 10 11 refl (omega arith),
        ← byte_drop b 9 10 refl (omega arith),
        ← byte_drop b 8 9 refl (omega arith),
        number_drop b bytes 4 (omega arith),
      )
      (number_drop b bytes 0 (omega arith))

  since_drop : reserved_at ≤ length b → rounds_at b ++ drop reserved_at b ≡ drop since_at b
  unfolding rounds_at
  since_drop h =
      sym (drop-append-le since_at (take reserved_at b) (drop reserved_at b) (omega (arith, length-take-le reserved_at b h)))
      ∙ ap (drop since_at) (take-append-drop reserved_at b)

  pub laid_out-taken_apart : sound_image b ≡ true → laid_out (taken_apart b) ≡ b
  unfolding laid_out
  laid_out-taken_apart h =
      let t = sound_image_gives b h in
      let whole = t.whole in
      rw (
        reserved_are b whole t.reserved,
        since_drop (omega arith),
        list_drop echoes_at max_numbers refl (omega arith),
        list_drop candidates_at max_numbers refl (omega arith),
        list_drop heard_at max_numbers refl (omega arith),
      )
      (head_drop (omega arith))

-- ---- what is laid out is a sound image

zeros_from_lem : (at : ℕ) → zeros (zeros_from at) ≡ true
unfolding zeros_from
zeros_from_lem at = zeros_replicate (image_bytes - at)

pub laid_out-sound : (s : State) → sound s ≡ true → sound_image (laid_out s) ≡ true
unfolding sound_image shaped
laid_out-sound s h =
    let z = sound_sized s h in
    let p = since_places s h in
    rw (eq-eqb (length (laid_out s)) image_bytes (laid_out_length s z p), reserved_zero s z p, zeros_from_lem reserved_at, taken_apart-laid_out s h) h
