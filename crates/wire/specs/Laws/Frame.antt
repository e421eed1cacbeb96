-- Laws of frames.
use Rattle.std.specs.Prelude.{ℕ, zero, suc, ◌+◌, ◌*◌, ◌%◌, ◌≤◌, Bool, true, false, cond, ◌&&◌, List, [], ◌∷◌, ◌++◌, ◌≢◌, ◌≡◌, refl, leb, eqb, length}
use Rattle.std.specs.Prelude.{get_or, drop}
use Rattle.std.proofs.Math.Bool.{and-eq-true_iff}
use Rattle.std.proofs.Common.{append-nil, sym, ap, ◌∙◌, leb-true, eqb-true, le-leb, eq-eqb, ne_eqb, le_trans, arith}
use Rattle.std.specs.Prelude.{Option, Some, None, Result, Ok, Err}
use Rattle.std.proofs.lemmas.Bool.{eqb-false}
use Rattle.std.proofs.Math.Seq.{drop-length}
use Rattle.wire.specs.Limits.{frame_header, number_width, kind_at, bit_at, count_at, max_numbers, max_frame}
use Rattle.wire.specs.declared.frame.Said.{Said}
use Rattle.wire.specs.declared.frame.Said.TheVariants.{Init, Roster, Value, Proposal, Opinion}
use Rattle.wire.specs.declared.frame.Frame.{Frame}
use Rattle.wire.specs.declared.frame.Void.{Void}
use Rattle.wire.specs.declared.frame.Void.TheVariants.{WrongLength, WrongRound, WrongContent}
use Rattle.wire.specs.Words.{half_at, word_at, words_at, words_bytes, Below}
use Rattle.wire.specs.Numbers.{rising}
use Rattle.wire.specs.Laws.Words.{half_back, word_back, words_behind, words_back, words_length, byte_drop, half_drop, word_drop, words_drop}
use Rattle.wire.specs.Refusal.{first_failed}
use Rattle.wire.specs.Frame.{kind_of, bit_chosen, kind_said, bit_said, chosen_by, said_by, bit_fits, max_count, Content}
use Rattle.wire.specs.Frame.{count_of, numbers_of, length_fits, round_fits, head_fits, list_fits, body_fits, read_refusal, content_of, content}
use Rattle.wire.specs.Frame.{void_number, frame_read, frame_in, bit_in, FrameReads, chosen_fits, said_fits, writable, header_bytes, frame_bytes}

max_count_bound : (k : ℕ) → max_count k ≤ max_numbers
unfolding max_count
max_count_bound k = pick (eqb k 2) (eqb k 5)
  where
    pick : (a b : Bool) → cond a max_numbers (cond b max_numbers 0) ≤ max_numbers
    pick true b = omega arith
    pick false true = omega arith
    pick false false = omega arith

-- bytes with a header list as many numbers as two of its bytes say
pub count_is : (s : List ℕ) → frame_header ≤ length s → count_of s ≡ half_at s count_at
count_is s h = rw (le-leb frame_header (length s) h)

pub length_fits_lem : (s : List ℕ) → length_fits s ≡ true → length s ≡ frame_header + number_width * count_of s
unfolding length_fits
length_fits_lem s h = eqb-true _ _ h

-- ---- reading

-- nothing is refused exactly if the three tests of the reader are passed
none_refused : (s : List ℕ) (t : ℕ) → eqb (read_refusal s t) 0 ≡ (length_fits s && head_fits s t && body_fits s (kind_of t))
unfolding read_refusal
none_refused s t = pick (length_fits s) (head_fits s t) (body_fits s (kind_of t))
  where
    pick : (a b d : Bool) → eqb (first_failed ((a, 11) ∷ (b, 12) ∷ (d, 13) ∷ [])) 0 ≡ (a && b && d)
    pick false b d = refl
    pick true false d = refl
    pick true true false = refl
    pick true true true = refl

pub content_is : (s : List ℕ) (t : ℕ) → content s t ≡ cond (length_fits s && head_fits s t && body_fits s (kind_of t)) (Some (content_of s t)) None
unfolding content
content_is s t = rw (none_refused s t)

-- the last of the three tests is left
pub last_refusal : (s : List ℕ) (t : ℕ) → read_refusal s t ≢ 0 → read_refusal s t ≢ 11 → read_refusal s t ≢ 12 → read_refusal s t ≡ 13
unfolding read_refusal
last_refusal s t = pick (length_fits s) (head_fits s t) (body_fits s (kind_of t))
  where
    pick : (a b d : Bool) → let n = first_failed ((a, 11) ∷ (b, 12) ∷ (d, 13) ∷ []) in n ≢ 0 → n ≢ 11 → n ≢ 12 → n ≡ 13
    pick false b d p q r = absurd (q refl)
    pick true false d p q r = absurd (r refl)
    pick true true false p q r = refl
    pick true true true p q r = absurd (p refl)

-- bytes that are not refused have a header
pub frame_header_lem : (s : List ℕ) (t : ℕ) → read_refusal s t ≡ 0 → frame_header ≤ length s
frame_header_lem s t h =
    let e = (and-eq-true_iff (length_fits s && head_fits s t) (body_fits s (kind_of t))).0 (sym (none_refused s t) ∙ eq-eqb _ _ h) in
    omega (arith, length_fits_lem s ((and-eq-true_iff (length_fits s) (head_fits s t)).0 e.0).0)

-- an answer with the right number, and with the frame where that is 0
pub frame_reads : (s : List ℕ) (t : ℕ) → read_refusal s t ≡ 0
    → FrameReads s t (Ok (record { round = t; said = said_by (kind_of t) (get_or s bit_at 0) }))
unfolding content
frame_reads s t h = record { number = sym h; frame = rw (eq-eqb _ _ h) }

-- a cause is never 0
pub caused : (e : Void) → void_number e ≢ 0
caused WrongLength = λ (z : ◌≡◌ {A = ℕ} 11 0). absurd (omega arith)
caused WrongRound = λ (z : ◌≡◌ {A = ℕ} 12 0). absurd (omega arith)
caused WrongContent = λ (z : ◌≡◌ {A = ℕ} 13 0). absurd (omega arith)

pub void_reads : (s : List ℕ) (t : ℕ) (e : Void) → void_number e ≡ read_refusal s t → FrameReads s t (Err e)
unfolding content
void_reads s t e number = record { number = number; frame = rw (ne_eqb _ _ (λ z. caused e (number ∙ z))) }

-- what an answer says is what the content says
pub bit_read : (s : List ℕ) (t : ℕ) (r : Result Frame Void) (f : Frame) → FrameReads s t r → r ≡ Ok f → bit_said f.said ≡ bit_in (content s t)
bit_read s t r f h e = pick (content s t) (sym h.frame ∙ ap frame_read e)
  where
    pick : (o : Option Content) → frame_in o ≡ Some f → bit_said f.said ≡ bit_in o
    pick None e = let z : ◌≡◌ {A = ℕ} 0 1 = cc in absurd (omega arith)
    pick (Some c) e = cc

pub nothing_read : (s : List ℕ) (t : ℕ) (r : Result Frame Void) → FrameReads s t r → frame_read r ≡ None → 3 ≡ bit_in (content s t)
nothing_read s t r h e = pick (content s t) (sym h.frame ∙ e)
  where
    pick : (o : Option Content) → frame_in o ≡ None → 3 ≡ bit_in o
    pick None e = refl
    pick (Some c) e = let z : ◌≡◌ {A = ℕ} 0 1 = cc in absurd (omega arith)

-- "Length 0 is a void frame"
pub empty_void : (t : ℕ) → content [] t ≡ None
unfolding content read_refusal length_fits
empty_void t = refl

-- ---- writing

-- what `writable` tests, one by one
pub record Writable (c : Content) : Type 0 where
  pub round : round_fits c.round ≡ true
  pub kind : kind_said c.said ≡ kind_of c.round
  pub said : said_fits c.said ≡ true
  pub count : length c.numbers ≤ max_count (kind_said c.said)
  pub rise : rising 0 c.numbers ≡ true

pub writable_gives : (c : Content) → writable c ≡ true → Writable c
unfolding writable
writable_gives c h =
    let e₄ = (and-eq-true_iff _ (rising 0 c.numbers)).0 h in
    let e₃ = (and-eq-true_iff _ (leb (length c.numbers) (max_count (kind_said c.said)))).0 e₄.0 in
    let e₂ = (and-eq-true_iff _ (said_fits c.said)).0 e₃.0 in
    let e₁ = (and-eq-true_iff (round_fits c.round) (eqb (kind_said c.said) (kind_of c.round))).0 e₂.0 in
    record { round = e₁.0; kind = eqb-true _ _ e₁.1; said = e₂.1; count = leb-true _ _ e₃.1; rise = e₄.1 }

pub writable_count : (c : Content) → writable c ≡ true → length c.numbers ≤ max_numbers
writable_count c h = le_trans (writable_gives c h).count (max_count_bound (kind_said c.said))

pub words_bytes_length : (l : List ℕ) → length (words_bytes l) ≡ number_width * length l
words_bytes_length [] = refl
words_bytes_length (x ∷ l) = let ih = words_bytes_length l in omega arith

pub frame_length : (c : Content) → length (frame_bytes c) ≡ frame_header + number_width * length c.numbers
unfolding frame_bytes
frame_length c = let e = words_bytes_length c.numbers in omega arith

-- "A frame is at most 264 bytes": one that is written
pub written_short : (c : Content) → writable c ≡ true → length (frame_bytes c) ≤ max_frame
written_short c h = omega (arith, frame_length c, writable_count c h)

-- ---- what a frame says, by its kind and bit

chosen_back : (c : Option ℕ) → chosen_fits c ≡ true → chosen_by (bit_chosen c) ≡ c
unfolding chosen_by
chosen_back (Some b) h =
    let l : b ≤ 1 = leb-true b 1 h in
    rw (ne_eqb b 2 (λ e. omega arith))
chosen_back None h = refl

chosen_fits_lem : (c : Option ℕ) → chosen_fits c ≡ true → leb (bit_chosen c) 2 ≡ true
chosen_fits_lem (Some b) h = let l : b ≤ 1 = leb-true b 1 h in le-leb b 2 (omega arith)
chosen_fits_lem None h = refl

-- what is allowed says 0, 1, or 2 for none
pub said_bound : (a : Said) → said_fits a ≡ true → bit_said a ≤ 2
said_bound Init h = omega arith
said_bound Roster h = omega arith
said_bound (Value b) h = let l : b ≤ 1 = leb-true b 1 h in omega arith
said_bound (Proposal c) h = leb-true (bit_chosen c) 2 (chosen_fits_lem c h)
said_bound (Opinion c) h = leb-true (bit_chosen c) 2 (chosen_fits_lem c h)

said_back : (a : Said) → said_fits a ≡ true → said_by (kind_said a) (bit_said a) ≡ a
unfolding said_by
said_back Init h = refl
said_back Roster h = refl
said_back (Value b) h = refl
said_back (Proposal c) h = ap Proposal (chosen_back c h)
said_back (Opinion c) h = ap Opinion (chosen_back c h)

said_fits_lem : (a : Said) → said_fits a ≡ true → bit_fits (kind_said a) (bit_said a) ≡ true
unfolding bit_fits
said_fits_lem Init h = refl
said_fits_lem Roster h = refl
said_fits_lem (Value b) h = h
said_fits_lem (Proposal c) h = chosen_fits_lem c h
said_fits_lem (Opinion c) h = chosen_fits_lem c h

-- ---- a frame written reads as its content

count_written : (c : Content) → count_of (frame_bytes c) ≡ length c.numbers
unfolding frame_bytes
count_written c = count_is (frame_bytes c) (omega (arith, frame_length c)) ∙ half_back (length c.numbers)

numbers_written : (c : Content) → numbers_of (frame_bytes c) ≡ c.numbers
unfolding frame_bytes
numbers_written c =
    ap (words_at (frame_bytes c) frame_header) (count_written c)
    ∙ words_behind (header_bytes c.round (kind_said c.said) (bit_said c.said) (length c.numbers)) (words_bytes c.numbers) 0 (length c.numbers)
    ∙ words_back c.numbers

length_written : (c : Content) → length_fits (frame_bytes c) ≡ true
unfolding length_fits
length_written c =
    let n = frame_length c in
    eq-eqb (length (frame_bytes c)) _ (n ∙ ap (λ (k : ℕ). frame_header + number_width * k) (sym (count_written c)))

head_written : (c : Content) → Writable c → head_fits (frame_bytes c) c.round ≡ true
unfolding head_fits frame_bytes
head_written c w = rw (w.round, word_back c.round, eq-eqb c.round c.round refl, eq-eqb (kind_said c.said) (kind_of c.round) w.kind)

body_written : (c : Content) → Writable c → body_fits (frame_bytes c) (kind_of c.round) ≡ true
unfolding body_fits frame_bytes
body_written c w =
    rw (
      numbers_written c,
      count_written c,
      ← w.kind,
      said_fits_lem c.said w.said,
      le-leb _ _ w.count,
      w.rise,
    )

pub reads_written : (c : Content) → writable c ≡ true → content (frame_bytes c) c.round ≡ Some c
unfolding frame_bytes
reads_written c h =
    let w = writable_gives c h in
    let said : said_by (kind_of c.round) (bit_said c.said) ≡ c.said = rw (← w.kind) (said_back c.said w.said) in
    let numbers = numbers_written c in
    rw (content_is (frame_bytes c) c.round, length_written c, head_written c w, body_written c w)
    (λ i. Some (record { round = c.round; said = said i; numbers = numbers i }))

-- ---- what reads as content is written as the same bytes

pub kind_range : (t : ℕ) → (1 ≤ kind_of t) × (kind_of t ≤ 5)
unfolding kind_of
kind_range t = pick (eqb t 1) (eqb t 2)
  where
    pick : (a b : Bool) → (1 ≤ cond a 1 (cond b 2 (3 + t % 3))) × (cond a 1 (cond b 2 (3 + t % 3)) ≤ 5)
    pick true b = omega arith
    pick false true = omega arith
    pick false false = omega arith

chosen_bit : (b : ℕ) → bit_chosen (chosen_by b) ≡ b
unfolding chosen_by
chosen_bit b = pick (eqb b 2) refl
  where
    pick : (t : Bool) → eqb b 2 ≡ t → bit_chosen (cond t None (Some b)) ≡ b
    pick true e = sym (eqb-true b 2 e)
    pick false e = refl

-- kinds one by one: k is one of 1 to 5
module _ (P : ℕ → Type 0) (p₁ : P 1) (p₂ : P 2) (p₃ : P 3) (p₄ : P 4) (p₅ : P 5) where
  by_kind : (k : ℕ) → 1 ≤ k → k ≤ 5 → P k
  by_kind zero l u = absurd (omega arith)
  by_kind (suc zero) l u = p₁
  by_kind (suc (suc zero)) l u = p₂
  by_kind (suc (suc (suc zero))) l u = p₃
  by_kind (suc (suc (suc (suc zero)))) l u = p₄
  by_kind (suc (suc (suc (suc (suc zero))))) l u = p₅
  by_kind (suc (suc (suc (suc (suc (suc k)))))) l u = absurd (omega arith)

pub said_kind : (k b : ℕ) → 1 ≤ k → k ≤ 5 → kind_said (said_by k b) ≡ k
unfolding said_by
said_kind k b = by_kind (λ (j : ℕ). kind_said (said_by j b) ≡ j) refl refl refl refl refl k

pub said_bit : (k b : ℕ) → 1 ≤ k → k ≤ 5 → bit_fits k b ≡ true → bit_said (said_by k b) ≡ b
unfolding said_by bit_fits
said_bit k b =
    by_kind (λ (j : ℕ). bit_fits j b ≡ true → bit_said (said_by j b) ≡ b)
    (λ h. sym (eqb-true b 2 h)) (λ h. sym (eqb-true b 2 h)) (λ h. refl) (λ h. chosen_bit b) (λ h. chosen_bit b) k

chosen_allowed : (b : ℕ) → leb b 2 ≡ true → chosen_fits (chosen_by b) ≡ true
unfolding chosen_by
chosen_allowed b h = pick (eqb b 2) refl
  where
    pick : (t : Bool) → eqb b 2 ≡ t → chosen_fits (cond t None (Some b)) ≡ true
    pick true e = refl
    pick false e = let l = leb-true b 2 h in let n : b ≢ 2 = eqb-false b 2 e in le-leb b 1 (omega arith)

pub said_allowed : (k b : ℕ) → 1 ≤ k → k ≤ 5 → bit_fits k b ≡ true → said_fits (said_by k b) ≡ true
unfolding said_by bit_fits
said_allowed k b =
    by_kind (λ (j : ℕ). bit_fits j b ≡ true → said_fits (said_by j b) ≡ true)
    (λ h. refl) (λ h. refl) (λ h. h) (λ h. chosen_allowed b h) (λ h. chosen_allowed b h) k

-- what content says of the bytes that it was read from
pub record ReadFrom (s : List ℕ) (t : ℕ) (c : Content) : Type 0 where
  pub whole : length_fits s ≡ true
  pub head : head_fits s t ≡ true
  pub body : body_fits s (kind_of t) ≡ true
  pub content : content_of s t ≡ c

pub content_gives : (s : List ℕ) (t : ℕ) (c : Content) → content s t ≡ Some c → ReadFrom s t c
content_gives s t c e = pick (length_fits s && head_fits s t && body_fits s (kind_of t)) refl (sym (content_is s t) ∙ e)
  where
    pick : (f : Bool) → (length_fits s && head_fits s t && body_fits s (kind_of t)) ≡ f → cond f (Some (content_of s t)) None ≡ Some c → ReadFrom s t c
    pick true h q =
        let e₂ = (and-eq-true_iff (length_fits s && head_fits s t) (body_fits s (kind_of t))).0 h in
        let e₁ = (and-eq-true_iff (length_fits s) (head_fits s t)).0 e₂.0 in
        record { whole = e₁.0; head = e₁.1; body = e₂.1; content = cc }
    pick false h q = let z : ◌≡◌ {A = ℕ} 0 1 = cc in absurd (omega arith)

-- content that was read is of the round's kind
pub read_kind : (s : List ℕ) (t : ℕ) (c : Content) → content s t ≡ Some c → kind_said c.said ≡ kind_of t
read_kind s t c e =
    let k = kind_range t in
    ap (λ (d : Content). kind_said d.said) (sym (content_gives s t c e).content) ∙ said_kind (kind_of t) (get_or s bit_at 0) k.0 k.1

-- the numbers of content that was read lie in the bytes, from the header's end to the last byte
pub read_numbers : (s : List ℕ) (t : ℕ) (c : Content) → content s t ≡ Some c
    → (c.numbers ≡ numbers_of s) × (length s ≡ frame_header + number_width * count_of s)
read_numbers s t c e =
    let g = content_gives s t c e in
    (ap (λ (d : Content). d.numbers) (sym g.content), length_fits_lem s g.whole)

-- a frame's bytes, field by field
frame_split : (s : List ℕ) → Below 256 s → length s ≡ frame_header + number_width * count_of s
    → header_bytes (word_at s 0) (get_or s kind_at 0) (get_or s bit_at 0) (count_of s) ++ words_bytes (numbers_of s) ≡ s
frame_split s b e =
    let w = words_drop s b frame_header (count_of s) (omega arith) in
    let count = count_is s (omega arith) in
    let end : drop (frame_header + number_width * count_of s) s ≡ [] = rw (← e) (drop-length s) in
    let numbers : words_bytes (numbers_of s) ≡ drop frame_header s = sym (append-nil (words_bytes (numbers_of s))) ∙ rw end at w in
    rw (numbers, count, half_drop s b count_at (omega arith), ← byte_drop s bit_at 6 refl (omega arith), ← byte_drop s kind_at 5 refl (omega arith))
    (word_drop s b 0 (omega arith))

-- what the second and the third test of the reader give
pub record HeadFits (s : List ℕ) (t : ℕ) : Type 0 where
  pub round : round_fits t ≡ true
  pub sent : word_at s 0 ≡ t
  pub kind : get_or s kind_at 0 ≡ kind_of t

pub head_gives : (s : List ℕ) (t : ℕ) → head_fits s t ≡ true → HeadFits s t
unfolding head_fits
head_gives s t h =
    let e₂ = (and-eq-true_iff (round_fits t && eqb (word_at s 0) t) (eqb (get_or s kind_at 0) (kind_of t))).0 h in
    let e₁ = (and-eq-true_iff (round_fits t) (eqb (word_at s 0) t)).0 e₂.0 in
    record { round = e₁.0; sent = eqb-true _ _ e₁.1; kind = eqb-true _ _ e₂.1 }

pub record BodyFits (s : List ℕ) (k : ℕ) : Type 0 where
  pub bit : bit_fits k (get_or s bit_at 0) ≡ true
  pub count : count_of s ≤ max_count k
  pub rise : rising 0 (numbers_of s) ≡ true

pub body_gives : (s : List ℕ) (k : ℕ) → body_fits s k ≡ true → BodyFits s k
unfolding body_fits
body_gives s k h =
    let e₁ = (and-eq-true_iff (bit_fits k (get_or s bit_at 0)) (list_fits s k)).0 h in
    let e₂ = (and-eq-true_iff (leb (count_of s) (max_count k)) (rising 0 (numbers_of s))).0 e₁.1 in
    record { bit = e₁.0; count = leb-true _ _ e₂.0; rise = e₂.1 }

pub writes_read : (s : List ℕ) (t : ℕ) (c : Content) → Below 256 s → content s t ≡ Some c → frame_bytes c ≡ s
unfolding frame_bytes
writes_read s t c b e =
    let g = content_gives s t c e in
    let h = head_gives s t g.head in
    let k = kind_range t in
    let kind = said_kind (kind_of t) (get_or s bit_at 0) k.0 k.1 ∙ sym h.kind in
    let bit = said_bit (kind_of t) (get_or s bit_at 0) k.0 k.1 (body_gives s (kind_of t) g.body).bit in
    let count = words_length s frame_header (count_of s) in
    ap frame_bytes (sym g.content)
    ∙ rw (kind, bit, count, sym h.sent) (frame_split s b (length_fits_lem s g.whole))

pub read_writable : (s : List ℕ) (t : ℕ) (c : Content) → content s t ≡ Some c → writable c ≡ true
unfolding writable
read_writable s t c e =
    let g = content_gives s t c e in
    let h = head_gives s t g.head in
    let d = body_gives s (kind_of t) g.body in
    let k = kind_range t in
    let kind = said_kind (kind_of t) (get_or s bit_at 0) k.0 k.1 in
    let count : length (numbers_of s) ≤ max_count (kind_of t) = rw (words_length s frame_header (count_of s)) d.count in
    ap writable (sym g.content)
    ∙ rw (h.round, kind, eq-eqb (kind_of t) (kind_of t) refl, said_allowed (kind_of t) (get_or s bit_at 0) k.0 k.1 d.bit, le-leb _ _ count, d.rise)

-- "A frame is at most 264 bytes": one that is read
pub read_short : (s : List ℕ) (t : ℕ) (c : Content) → content s t ≡ Some c → length s ≤ max_frame
read_short s t c e =
    let g = content_gives s t c e in
    omega (arith, length_fits_lem s g.whole, (body_gives s (kind_of t) g.body).count, max_count_bound (kind_of t))
