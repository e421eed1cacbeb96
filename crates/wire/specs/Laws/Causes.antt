-- Laws of the reader's refusals: request A2 of document 02, "Sort damaged frames by cause".
--     LengthWrong s, RoundWrong s t     what the request says of 11, and of 12
--     Cause s t n                       the case in which bytes s, read in round t, get the number n
--     sorted, cause_number              each number is given in its case, and in no other: the cases cover everything and exclude each other
--     other_round                       the late clock: a whole frame of another round gets 12
--     content_damaged                   the card: a frame whose bit or list is damaged gets 13
--     one_answer                        what the reader promises fixes its answer
use Rattle.std.specs.Prelude.{ℕ, ◌+◌, ◌*◌, ◌≤◌, ◌<◌, Bool, cond, ◌&&◌, List, ◌⊎◌, ◌≢◌, ◌≡◌, leb, eqb, length, get_or}
use Rattle.std.proofs.Math.Bool.{true, false, and-eq-true_iff}
use Rattle.std.proofs.Common.{inl, inr, sym, ap, ◌∙◌, leb-true, leb-false, le-leb, arith}
use Rattle.std.specs.Prelude.{Option, Some, None, Result, Ok, Err}
use Rattle.std.proofs.Math.Path.{refl}
use Rattle.std.proofs.lemmas.Bool.{eqb-false}
use Rattle.wire.specs.Limits.{frame_header, number_width, kind_at, count_at, last_round}
use Rattle.wire.specs.Words.{half_at, word_at}
use Rattle.wire.specs.Frame.{kind_of, Content, length_fits, round_fits, head_fits, body_fits, read_refusal, content_of, content}
use Rattle.wire.specs.Frame.{number_read, frame_read, FrameReads}
use Rattle.wire.specs.Laws.Frame.{count_is, length_fits_lem, content_is, content_gives, head_gives}
use Rattle.wire.specs.declared.frame.Frame.{Frame}
use Rattle.wire.specs.declared.frame.Void.{Void}
use Rattle.wire.specs.declared.frame.Void.TheVariants.{WrongLength, WrongRound, WrongContent}

-- "a frame under 8 bytes or whose length isn't 8 + 4 × count"
abbrev pub LengthWrong : List ℕ → Type 0
LengthWrong s = (length s < frame_header) ⊎ (length s ≢ frame_header + number_width * half_at s count_at)

-- "round or kind, also if the round given is not 1 to 195"
abbrev pub RoundWrong : List ℕ → ℕ → Type 0
RoundWrong s t = (¬ ((1 ≤ t) × (t ≤ last_round))) ⊎ ((word_at s 0 ≢ t) ⊎ (get_or s kind_at 0 ≢ kind_of t))

-- "tested after 11 in that order"; "13 for the rest"
pub data Cause (s : List ℕ) (t : ℕ) : ℕ → Type 0 where
  Whole : (c : Content) → content s t ≡ Some c → Cause s t 0
  Length : LengthWrong s → Cause s t 11
  Round : (¬ LengthWrong s) → RoundWrong s t → Cause s t 12
  Rest : (¬ LengthWrong s) → (¬ RoundWrong s t) → content s t ≡ None → Cause s t 13

-- ---- the tests in the request's words

length_right : (s : List ℕ) → length_fits s ≡ true → ¬ LengthWrong s
length_right s h (inl short) = omega (arith, length_fits_lem s h)
length_right s h (inr e) =
    e (length_fits_lem s h ∙ ap (λ (n : ℕ). frame_header + number_width * n) (count_is s (omega (arith, length_fits_lem s h))))

length_wrong : (s : List ℕ) → length_fits s ≡ false → LengthWrong s
unfolding length_fits
length_wrong s h = pick (leb frame_header (length s)) refl
  where
    pick : (t : Bool) → leb frame_header (length s) ≡ t → LengthWrong s
    pick true e =
        inr (λ q. eqb-false _ _ h (q ∙ ap (λ (n : ℕ). frame_header + number_width * n) (sym (count_is s (leb-true _ _ e)))))
    pick false e = inl (leb-false frame_header (length s) e)

round_right : (s : List ℕ) (t : ℕ) → head_fits s t ≡ true → ¬ RoundWrong s t
unfolding round_fits
round_right s t h (inl out) =
    let range = (and-eq-true_iff (leb 1 t) (leb t last_round)).0 (head_gives s t h).round in
    out (leb-true 1 t range.0, leb-true t last_round range.1)
round_right s t h (inr (inl e)) = e (head_gives s t h).sent
round_right s t h (inr (inr e)) = e (head_gives s t h).kind

round_wrong : (s : List ℕ) (t : ℕ) → head_fits s t ≡ false → RoundWrong s t
unfolding head_fits round_fits
round_wrong s t = pick (round_fits t) (eqb (word_at s 0) t) (eqb (get_or s kind_at 0) (kind_of t)) refl refl refl
  where
    pick : (a b d : Bool) → round_fits t ≡ a → eqb (word_at s 0) t ≡ b → eqb (get_or s kind_at 0) (kind_of t) ≡ d → (a && b && d) ≡ false → RoundWrong s t
    pick false b d p q r h = inl (λ range.
        let in-range : round_fits t ≡ true = rw (le-leb 1 t range.0, le-leb t last_round range.1) in
        let z : ◌≡◌ {A = ℕ} 0 1 = cc in
        omega arith)
    pick true false d p q r h = inr (inl (eqb-false _ _ q))
    pick true true false p q r h = inr (inr (eqb-false _ _ r))
    pick true true true p q r h = let z : ◌≡◌ {A = ℕ} 0 1 = cc in absurd (omega arith)

-- a test that fails just where something is wrong
module _ (W : Type 0) (b : Bool) (right : b ≡ true → ¬ W) (wrong : b ≡ false → W) where
  fails : W → b ≡ false
  fails w = pick b refl
    where
      pick : (t : Bool) → b ≡ t → b ≡ false
      pick true e = absurd (right e w)
      pick false e = e

  passes : (¬ W) → b ≡ true
  passes n = pick b refl
    where
      pick : (t : Bool) → b ≡ t → b ≡ true
      pick true e = e
      pick false e = absurd (n (wrong e))

-- ---- each number in just its case

module _ (s : List ℕ) (t : ℕ) where
  pub sorted : Cause s t (read_refusal s t)
  unfolding read_refusal
  sorted = pick (length_fits s) (head_fits s t) (body_fits s (kind_of t)) refl refl refl
    where
      pick : (a b d : Bool) → length_fits s ≡ a → head_fits s t ≡ b → body_fits s (kind_of t) ≡ d → Cause s t (read_refusal s t)
      pick false b d p q r = rw p (Length (length_wrong s p))
      pick true false d p q r = rw (p, q) (Round (length_right s p) (round_wrong s t q))
      pick true true false p q r = rw (p, q, r) (Rest (length_right s p) (round_right s t q) (content_is s t ∙ rw (p, q, r)))
      pick true true true p q r = rw (p, q, r) (Whole (content_of s t) (content_is s t ∙ rw (p, q, r)))

  length_known : (¬ LengthWrong s) → length_fits s ≡ true
  length_known = passes (LengthWrong s) (length_fits s) (length_right s) (length_wrong s)

  round_known : (¬ RoundWrong s t) → head_fits s t ≡ true
  round_known = passes (RoundWrong s t) (head_fits s t) (round_right s t) (round_wrong s t)

  rest_known : (¬ LengthWrong s) → (¬ RoundWrong s t) → content s t ≡ None → body_fits s (kind_of t) ≡ false
  rest_known l r e = pick (body_fits s (kind_of t)) refl
    where
      pick : (d : Bool) → body_fits s (kind_of t) ≡ d → body_fits s (kind_of t) ≡ false
      pick true q =
          let reads : content s t ≡ Some (content_of s t) = content_is s t ∙ rw (length_known l, round_known r, q) in
          let z : ◌≡◌ {A = ℕ} 0 1 = cc in
          absurd (omega arith)
      pick false q = q

  pub cause_number : {n : ℕ} → Cause s t n → read_refusal s t ≡ n
  unfolding read_refusal
  cause_number (Whole c e) = let g = content_gives s t c e in rw (g.whole, g.head, g.body)
  cause_number (Length w) = rw (fails (LengthWrong s) (length_fits s) (length_right s) (length_wrong s) w)
  cause_number (Round l w) = rw (length_known l, fails (RoundWrong s t) (head_fits s t) (round_right s t) (round_wrong s t) w)
  cause_number (Rest l r e) = rw (length_known l, round_known r, rest_known l r e)

-- ---- the late clock, and the card

pub other_round : (s : List ℕ) (t u : ℕ) (c : Content) → content s u ≡ Some c → t ≢ u → read_refusal s t ≡ 12
other_round s t u c e differ =
    let g = content_gives s u c e in
    cause_number s t (Round (length_right s g.whole) (inr (inl (λ q. differ (sym q ∙ (head_gives s u g.head).sent)))))

-- bytes as many as those of a frame, and its header but for the bit
pub record HeadKept (s s' : List ℕ) : Type 0 where
  pub size : length s' ≡ length s
  pub round : word_at s' 0 ≡ word_at s 0
  pub kind : get_or s' kind_at 0 ≡ get_or s kind_at 0
  pub count : half_at s' count_at ≡ half_at s count_at

pub content_damaged : (s s' : List ℕ) (t : ℕ) (c : Content) → content s t ≡ Some c → HeadKept s s' → content s' t ≡ None → read_refusal s' t ≡ 13
content_damaged s s' t c e kept void = cause_number s' t (Rest whole head void)
  where
    whole : ¬ LengthWrong s'
    whole (inl short) = length_right s (content_gives s t c e).whole (inl (rw kept.size at short))
    whole (inr q) =
        length_right s (content_gives s t c e).whole
        (inr (λ p. q (kept.size ∙ p ∙ ap (λ (n : ℕ). frame_header + number_width * n) (sym kept.count))))

    head : ¬ RoundWrong s' t
    head (inl out) = round_right s t (content_gives s t c e).head (inl out)
    head (inr (inl q)) = round_right s t (content_gives s t c e).head (inr (inl (λ p. q (kept.round ∙ p))))
    head (inr (inr q)) = round_right s t (content_gives s t c e).head (inr (inr (λ p. q (kept.kind ∙ p))))

-- ---- the reader's answer

-- the case with a frame, or with a number
answer : Option Frame → ℕ → Result Frame Void
answer (Some f) n = Ok f
answer None n = Err (cond (eqb n 11) WrongLength (cond (eqb n 12) WrongRound WrongContent))

answer_back : (r : Result Frame Void) → answer (frame_read r) (number_read r) ≡ r
unfolding answer
answer_back (Ok f) = refl
answer_back (Err WrongLength) = refl
answer_back (Err WrongRound) = refl
answer_back (Err WrongContent) = refl

pub one_answer : (s : List ℕ) (t : ℕ) (q r : Result Frame Void) → FrameReads s t q → FrameReads s t r → q ≡ r
one_answer s t q r h k =
    sym (answer_back q) ∙ rw (h.frame ∙ sym k.frame, h.number ∙ sym k.number) (answer_back r)
