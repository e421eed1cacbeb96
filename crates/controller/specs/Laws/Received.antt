-- Laws of what is received: who is heard, and that a frame sent with a sound state reads back as what it says.
use Rattle.std.specs.Prelude.{ℕ, zero, suc, ◌+◌, ◌-◌, ◌≤◌, ◌<◌, Bool, true, false, cond, ◌&&◌, List, [], ◌∷◌, ◌⊎◌, ◌↔◌, ◌≢◌, ◌≡◌, refl, leb, eqb, ltb, length}
use Rattle.std.proofs.Math.Bool.{and-false}
use mathlib.Core.List.Memᴰ
use Rattle.std.proofs.Common.{inl, inr, ◌∙◌, ap, leb-false, le-leb, eq-eqb, ne_eqb, arith}
use Rattle.std.specs.Prelude.{Option, Some, None}
use Rattle.std.proofs.Math.Decide.{ℕ_discrete}
use Rattle.wire.specs.Frame.{Content, content, kind_of, kind_said, bit_said, bit_in, bit_fits, frame_bytes, round_fits, writable, max_count}
use Rattle.wire.specs.Laws.Frame.{kind_range, said_kind, said_bit, said_allowed, said_bound, writable_gives, reads_written, read_kind, read_writable}
use Rattle.wire.specs.Limits.{max_numbers, last_round}
use Rattle.wire.specs.Numbers.{rising}
use Rattle.wire.specs.Found.{Under, nothing, one, several, under}
use Rattle.wire.specs.Laws.Found.{under_nothing, under_member}
use Rattle.wire.specs.Tray.{Entry, entry_count, sender, entries_from, entries}
use Rattle.controller.specs.Lists.{In, Rising, mem}
use Rattle.controller.specs.State.{View, undecided}
use Rattle.controller.specs.Received.{frame_saying, frame_of, stand_in, senders, read_in, is_nothing, silent, receive, says, opinion_in, list_in}
use Rattle.controller.specs.Laws.Lists.{true_or_false, in_mem, out_mem, inside_length, insert_all_in, insert_all_rising, rising_gives, rising_test}
use Rattle.controller.specs.Laws.State.{SoundList, Sound}

-- ---- the directory's senders

-- one step along the directory, as a loop over it takes it
pub senders_step : (b : List ℕ) (n i : ℕ) → i < n → senders (entries_from b (n - i) i) ≡ sender b i ∷ senders (entries_from b (n - (i + 1)) (i + 1))
senders_step b n i h = let e : n - i ≡ suc (n - (i + 1)) = omega arith in rw e

senders_from_in : (b : List ℕ) (n i j : ℕ) → i ≤ j → j < i + n → In (sender b j) (senders (entries_from b n i))
senders_from_in b zero i j l u = absurd (omega arith)
senders_from_in b (suc n) i j l u = elim (ℕ_discrete j i) [
  | yes e ↦ Memᴰ.head (ap (sender b) e)
  | no d ↦ Memᴰ.tail (senders_from_in b n (i + 1) j (omega arith) (omega arith))
]

pub sender_in : (b : List ℕ) (i : ℕ) → i < entry_count b → In (sender b i) (senders (entries b))
unfolding entries
sender_in b i h = senders_from_in b (entry_count b) 0 i (omega arith) (omega arith)

-- ---- who is heard, and the frame under each number

pub heard_in_lem : {x : ℕ} (v : View) (es : List Entry) → In x (receive v es).heard ↔ (In x (senders es) ⊎ In x v.rotor.heard)
unfolding receive
heard_in_lem v es = insert_all_in (senders es) v.rotor.heard

pub heard_rising : (v : View) (es : List Entry) → Rising v.rotor.heard → Rising (receive v es).heard
unfolding receive
heard_rising v es up = insert_all_rising (senders es) v.rotor.heard up

-- somebody, oneself, is always heard
pub heard_some : (v : View) (es : List Entry) → Sound v → 0 < length (receive v es).heard
heard_some v es h =
    inside_length (v.own ∷ []) (Memᴰ.not-nil, tt)
    (λ x i. (heard_in_lem v es).1 (inr (Memᴰ.cast (Memᴰ.eq_of_singleton i) h.hears_itself)))

-- who has an entry is not silent
pub under_entry : (x : ℕ) (es : List Entry) → In x (senders es) → is_nothing (under x es) ≡ false
under_entry x es i =
    let e = Memᴰ.of_map (λ (e : Entry). e.sender) es i in
    elim (under_member x e.0 es e.1 e.2) [ inl q ↦ rw q | inr q ↦ rw q ]

pub received_own : (v : View) (es : List Entry) → (receive v es).from v.own ≡ Some (frame_of v)
unfolding receive
received_own v es = rw (eq-eqb v.own v.own refl)

-- under the number of another one that has an entry: what the frame reads as
pub received_other : (v : View) (es : List Entry) (x : ℕ) → x ≢ v.own → is_nothing (under x es) ≡ false
    → (receive v es).from x ≡ read_in v.round (under x es)
unfolding receive
received_other v es x h e = rw (ne_eqb x v.own h, e, and-false (mem x v.rotor.heard))

-- and of one that is silent
pub received_silent : (v : View) (es : List Entry) (x : ℕ) → x ≢ v.own → In x v.rotor.heard → (¬ In x (senders es))
    → (receive v es).from x ≡ Some (stand_in v)
unfolding receive
received_silent v es x h i out = rw (ne_eqb x v.own h, in_mem i, under_nothing x es out)

-- one that is not heard is not oneself, and neither has an entry nor is silent
pub unheard_received : (v : View) (es : List Entry) → Sound v → (x : ℕ) → (¬ In x (receive v es).heard) → (receive v es).from x ≡ None
unfolding receive
unheard_received v es h x out =
    let other : x ≢ v.own = λ e. out ((heard_in_lem v es).1 (inr (Memᴰ.cast e h.hears_itself))) in
    rw (ne_eqb x v.own other, out_mem v.rotor.heard (λ i. out ((heard_in_lem v es).1 (inr i))), under_nothing x es (λ i. out ((heard_in_lem v es).1 (inl i))))

-- ---- the frame of a sound state

-- a kind that takes numbers takes all that a sound list has
numbers_fit : (k : ℕ) (l : List ℕ) → SoundList l
    → (length (cond (ltb 0 (max_count k)) l []) ≤ max_count k) × (rising 0 (cond (ltb 0 (max_count k)) l []) ≡ true)
unfolding max_count
numbers_fit k l h = pick (eqb k 2) (eqb k 5)
  where
    most : Bool → Bool → ℕ
    most a b = cond a max_numbers (cond b max_numbers 0)

    pick : (a b : Bool) → (length (cond (ltb 0 (most a b)) l []) ≤ most a b) × (rising 0 (cond (ltb 0 (most a b)) l []) ≡ true)
    pick true b = (h.short, rising_test l h.rises h.positive)
    pick false true = (h.short, rising_test l h.rises h.positive)
    pick false false = (omega arith, refl)

-- what a frame says, by kind and bit
saying_kind : (v : View) (b : ℕ) → kind_said (frame_saying v b).said ≡ kind_of v.round
saying_kind v b = let k = kind_range v.round in said_kind (kind_of v.round) b k.0 k.1

saying_bit : (v : View) (b : ℕ) → bit_fits (kind_of v.round) b ≡ true → bit_said (frame_saying v b).said ≡ b
saying_bit v b fits = let k = kind_range v.round in said_bit (kind_of v.round) b k.0 k.1 fits

-- a frame of a sound state's round that says a bit of its kind is allowed
saying_writable : (v : View) (b : ℕ) → Sound v → bit_fits (kind_of v.round) b ≡ true → writable (frame_saying v b) ≡ true
unfolding writable round_fits
saying_writable v b h fits =
    let k = kind_range v.round in
    let numbers = numbers_fit (kind_of v.round) v.rotor.echoes h.echoes in
    rw (
      le-leb 1 v.round h.early,
      le-leb v.round last_round h.late,
      said_kind (kind_of v.round) b k.0 k.1,
      eq-eqb (kind_of v.round) (kind_of v.round) refl,
      said_allowed (kind_of v.round) b k.0 k.1 fits,
      le-leb _ _ numbers.0,
      numbers.1,
    )

-- no opinion is allowed in a turn
no_opinion_fits : (k b : ℕ) → bit_fits k b ≡ true → bit_fits k (cond (eqb k 5) 2 b) ≡ true
unfolding bit_fits
no_opinion_fits k b h = elim (ℕ_discrete k 5) [ yes e ↦ rw e | no d ↦ rw (ne_eqb k 5 d) h ]

-- what one says that is silent: what the state says, but no opinion
abbrev pub silent_bit : View → ℕ
silent_bit v = cond (eqb (kind_of v.round) 5) 2 v.bit.said

-- a sound state that has not decided
module _ (v : View) (h : Sound v) (u : undecided v ≡ true) where
  silent_fits : bit_fits (kind_of v.round) (silent_bit v) ≡ true
  silent_fits = no_opinion_fits (kind_of v.round) v.bit.said (h.said u)

  -- its frame is allowed, so it is written, and reads back
  pub frame_writable : writable (frame_of v) ≡ true
  unfolding frame_of
  frame_writable = saying_writable v v.bit.said h (h.said u)

  pub stand_in_writable : writable (stand_in v) ≡ true
  unfolding stand_in
  stand_in_writable = saying_writable v (silent_bit v) h silent_fits

  pub own_frame_reads : content (frame_bytes (frame_of v)) v.round ≡ Some (frame_of v)
  unfolding frame_of
  own_frame_reads = reads_written (frame_of v) frame_writable

  -- what its frame says, and what one that is silent says
  pub frame_bit : bit_said (frame_of v).said ≡ v.bit.said
  unfolding frame_of
  frame_bit = saying_bit v v.bit.said (h.said u)

  pub stand_in_bit : bit_said (stand_in v).said ≡ silent_bit v
  unfolding stand_in
  stand_in_bit = saying_bit v (silent_bit v) silent_fits

  pub frame_says : (k b : ℕ) → says k b (Some (frame_of v)) ≡ (eqb (kind_of v.round) k && eqb v.bit.said b)
  unfolding frame_of
  frame_says k b = rw (saying_kind v v.bit.said, frame_bit)

  pub stand_in_says : (k b : ℕ) → says k b (Some (stand_in v)) ≡ (eqb (kind_of v.round) k && eqb (silent_bit v) b)
  unfolding stand_in
  stand_in_says k b = rw (saying_kind v (silent_bit v), stand_in_bit)

pub frame_list : (v : View) → list_in (Some (frame_of v)) ≡ cond (ltb 0 (max_count (kind_of v.round))) v.rotor.echoes []
unfolding frame_of
frame_list v = refl

-- one that is silent has one's own list
pub stand_in_list : (v : View) → list_in (Some (stand_in v)) ≡ list_in (Some (frame_of v))
unfolding frame_of stand_in
stand_in_list v = refl

-- ---- what is received is allowed

pub read_allowed : (t : ℕ) (u : Under) (c : Content) → read_in t u ≡ Some c → writable c ≡ true
read_allowed t nothing c e = let z : ◌≡◌ {A = ℕ} 0 1 = cc in absurd (omega arith)
read_allowed t (one b) c e = read_writable b t c e
read_allowed t several c e = let z : ◌≡◌ {A = ℕ} 0 1 = cc in absurd (omega arith)

-- what holds of the own frame, of what stands in for one that is silent and of each frame that is read holds of what is received
received_any : (P : Content → Type 0) (v : View) (es : List Entry) (x : ℕ) → P (frame_of v) → P (stand_in v)
    → ((c : Content) → read_in v.round (under x es) ≡ Some c → P c) → (c : Content) → (receive v es).from x ≡ Some c → P c
unfolding receive
received_any P v es x own silence read c = pick (eqb x v.own) (silent v es x)
  where
    pick : (a b : Bool) → cond a (Some (frame_of v)) (cond b (Some (stand_in v)) (read_in v.round (under x es))) ≡ Some c → P c
    pick true b e = let same : frame_of v ≡ c = cc in rw same at own
    pick false true e = let same : stand_in v ≡ c = cc in rw same at silence
    pick false false e = read c e

pub received_allowed : (v : View) (es : List Entry) → Sound v → undecided v ≡ true → (x : ℕ) (c : Content) → (receive v es).from x ≡ Some c
    → writable c ≡ true
received_allowed v es h u x =
    received_any (λ c. writable c ≡ true) v es x (frame_writable v h u) (stand_in_writable v h u)
    (read_allowed v.round (under x es))

list_positive : (o : Option Content) → ((c : Content) → o ≡ Some c → writable c ≡ true) → (y : ℕ) → In y (list_in o) → 0 < y
list_positive None allowed y i = absurd (Memᴰ.not-nil i)
list_positive (Some c) allowed y i = (rising_gives c.numbers (writable_gives c (allowed c refl)).rise).1 y i

-- the numbers of a frame that was read, or of the own frame of a sound state, are above 0
pub received_positive : (v : View) (es : List Entry) → Sound v → undecided v ≡ true → (x y : ℕ) → In y (list_in ((receive v es).from x)) → 0 < y
received_positive v es h u x = list_positive ((receive v es).from x) (received_allowed v es h u x)

-- ---- the bit of what is received tells what it says, since its kind is the round's

read_of_kind : (t : ℕ) (u : Under) (c : Content) → read_in t u ≡ Some c → kind_said c.said ≡ kind_of t
read_of_kind t nothing c e = let z : ◌≡◌ {A = ℕ} 0 1 = cc in absurd (omega arith)
read_of_kind t (one b) c e = read_kind b t c e
read_of_kind t several c e = let z : ◌≡◌ {A = ℕ} 0 1 = cc in absurd (omega arith)

received_kind : (v : View) (es : List Entry) (x : ℕ) (c : Content) → (receive v es).from x ≡ Some c → kind_said c.said ≡ kind_of v.round
unfolding frame_of stand_in
received_kind v es x =
    received_any (λ c. kind_said c.said ≡ kind_of v.round) v es x (saying_kind v v.bit.said) (saying_kind v (silent_bit v))
    (read_of_kind v.round (under x es))

says_by_bit : (k b : ℕ) (o : Option Content) → ((c : Content) → o ≡ Some c → kind_said c.said ≡ k) → b < 3 → eqb (bit_in o) b ≡ says k b o
says_by_bit k b None kind l = ne_eqb 3 b (λ e. omega arith)
says_by_bit k b (Some c) kind l = rw (eq-eqb _ _ (kind c refl))

pub received_says : (v : View) (es : List Entry) (x b : ℕ) → b < 3
    → eqb (bit_in ((receive v es).from x)) b ≡ says (kind_of v.round) b ((receive v es).from x)
received_says v es x b = says_by_bit (kind_of v.round) b ((receive v es).from x) (received_kind v es x)

bit_or_none : (b : ℕ) → b ≤ 2 → b ≡ cond (leb b 1) b 2
bit_or_none b l = elim (true_or_false (leb b 1)) [ inl t ↦ rw t | inr t ↦ rw t (omega (arith, leb-false b 1 t)) ]

opinion_by_bit : (o : Option Content) → ((c : Content) → o ≡ Some c → (kind_said c.said ≡ 5) × (writable c ≡ true))
    → opinion_in o ≡ cond (leb (bit_in o) 1) (bit_in o) 2
opinion_by_bit None is = refl
opinion_by_bit (Some c) is = rw (eq-eqb _ _ (is c refl).0) (bit_or_none (bit_said c.said) (said_bound c.said (writable_gives c (is c refl).1).said))

pub received_opinion : (v : View) (es : List Entry) → Sound v → undecided v ≡ true → kind_of v.round ≡ 5 → (x : ℕ)
    → opinion_in ((receive v es).from x) ≡ cond (leb (bit_in ((receive v es).from x)) 1) (bit_in ((receive v es).from x)) 2
received_opinion v es h u k x = opinion_by_bit ((receive v es).from x) (λ c e. (received_kind v es x c e ∙ k, received_allowed v es h u x c e))
