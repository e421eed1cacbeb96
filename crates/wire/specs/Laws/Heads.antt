-- Laws of headers as numbers: a frame that lists nothing says a bit exactly if its eight bytes are the header with that bit.
--     short_says     what the eight bytes from a place of a tray on say
--     long_void      bytes of another length are void
use Rattle.std.proofs.lemmas.Bool.{lt-leb}
use Rattle.std.specs.Prelude.{ℕ, ◌+◌, ◌*◌, ◌≤◌, ◌<◌, Bool, cond, List, [], ◌≢◌, ◌≡◌, length, drop}
use Rattle.std.proofs.Math.Bool.{true, false}
use Rattle.std.specs.Prelude.{Option, Some, None}
use Rattle.std.proofs.Math.Path.{refl, ap}
use Rattle.std.proofs.Common.{sym, ◌∙◌, add-zero, add_assoc, length-take, length-drop, get_or-take, get_or-drop, arith, eq-eqb, ne_eqb, le-leb, leb-true}
use Rattle.std.proofs.Math.Decide.{ℕ_discrete}
use Rattle.std.proofs.Math.Dec.{leb, eqb}
use Rattle.std.proofs.Math.ListN.{get_or, take}
use Rattle.wire.specs.Limits.{frame_header, bit_at, count_at}
use Rattle.wire.specs.Words.{half_at, word_at, Below}
use Rattle.wire.specs.Frame.{kind_of, bit_said, bit_fits, max_count, Content, count_of, length_fits, head_fits, body_fits, content, bit_in}
use Rattle.wire.specs.Heads.{Short, head_at, head_from, head_of}
use Rattle.wire.specs.Tray.{part}
use Rattle.wire.specs.Laws.Frame.{count_is, length_fits_lem, content_is, content_gives, head_gives, body_gives, said_bit, empty_void}

no_numbers : (k : ℕ) → 3 ≤ k → k ≤ 4 → max_count k ≡ 0
unfolding max_count
no_numbers k l m = rw (ne_eqb k 2 (λ e. omega arith), ne_eqb k 5 (λ e. omega arith))

bit_fits_lem : (k b : ℕ) → 3 ≤ k → b < 2 → bit_fits k b ≡ true
unfolding bit_fits
bit_fits_lem k b l h = rw (lt-leb k 2 (omega arith)) (pick (eqb k 3))
  where
    pick : (x : Bool) → cond x (leb b 1) (leb b 2) ≡ true
    pick true = le-leb b 1 (omega arith)
    pick false = le-leb b 2 (omega arith)

-- ---- eight bytes

module _ (s : List ℕ) (t b : ℕ)
    (bytes : (i : ℕ) → i < frame_header → get_or s i 0 < 256) (whole : length s ≡ frame_header) (short : Short t) (few : b < 2) where
  -- from what they say to their number
  said_head : bit_in (content s t) ≡ b → head_at s 0 ≡ head_of t b
  said_head = pick (content s t) refl
    where
      pick : (o : Option Content) → content s t ≡ o → bit_in o ≡ b → head_at s 0 ≡ head_of t b
      pick None q e = absurd (omega arith)
      pick (Some c) q e =
          let g = content_gives s t c q in
          let h = head_gives s t g.head in
          let d = body_gives s (kind_of t) g.body in
          let few = no_numbers (kind_of t) short.least short.most in
          let count = count_is s (omega arith) in
          let none : half_at s count_at ≡ 0 = omega (arith, d.count) in
          let bit : get_or s bit_at 0 ≡ b =
          sym (said_bit (kind_of t) (get_or s bit_at 0) (omega (arith, short.least)) (omega (arith, short.most)) d.bit)
          ∙ ap (λ (c : Content). bit_said c.said) g.content ∙ e in
          omega (arith, h.sent, h.kind, bit, none)

  -- and back
  head_said : head_at s 0 ≡ head_of t b → bit_in (content s t) ≡ b
  unfolding length_fits head_fits body_fits
  head_said e =
      let top = short.most in
      let byte₀ = bytes 4 (omega arith) in
      let byte₁ = bytes 5 (omega arith) in
      let byte₂ = bytes 6 (omega arith) in
      let byte₃ = bytes 7 (omega arith) in
      let low : word_at s 4 < 4294967296 = omega arith in
      let sent : word_at s 0 ≡ t = omega arith in
      let rest : word_at s 4 ≡ kind_of t * 16777216 + b * 65536 = omega arith in
      let kind : get_or s 4 0 ≡ kind_of t = omega arith in
      let bit : get_or s bit_at 0 ≡ b = omega arith in
      let count : count_of s ≡ 0 = count_is s (omega arith) ∙ omega arith in
      let fits = bit_fits_lem (kind_of t) b short.least few in
      let room = le-leb 0 (max_count (kind_of t)) (omega arith) in
      rw (content_is s t, count, bit, sent, kind, whole, short.fits, eq-eqb t t refl, eq-eqb (kind_of t) (kind_of t) refl, fits, room)
      (said_bit (kind_of t) b (omega (arith, short.least)) (omega (arith, short.most)) fits)

  says_head : eqb (head_at s 0) (head_of t b) ≡ eqb (bit_in (content s t)) b
  says_head =
      elim (ℕ_discrete (head_at s 0) (head_of t b)) [
        | yes e ↦ rw (eq-eqb _ _ e, eq-eqb _ _ (head_said e))
        | no n ↦ rw (ne_eqb _ _ n, ne_eqb _ _ (λ e. n (said_head e)))
      ]

-- ---- eight bytes of a tray

module _ (s : List ℕ) (o n : ℕ) where
  part_byte : (i : ℕ) → i < n → get_or (take n (drop o s)) i 0 ≡ get_or s (o + i) 0
  part_byte i h = get_or-take n (drop o s) i 0 h ∙ get_or-drop o s i 0

  part_word : (at : ℕ) → at + 4 ≤ n → word_at (take n (drop o s)) at ≡ word_at s (o + at)
  part_word at h =
      rw (
        part_byte at (omega arith),
        part_byte (at + 1) (omega arith),
        part_byte (at + 2) (omega arith),
        part_byte (at + 3) (omega arith),
        ← add_assoc o at 1,
        ← add_assoc o at 2,
        ← add_assoc o at 3,
      )

  -- bytes that lie in the tray are as many as they should be; else there are none
  part_length : (x : Bool) → leb (o + n) (length s) ≡ x → length (cond x (take n (drop o s)) []) ≡ cond x n 0
  part_length true h = length-take n (drop o s) ∙ omega (arith, length-drop o s, leb-true (o + n) (length s) h)
  part_length false h = refl

module _ (s : List ℕ) (o t b : ℕ) (bytes : Below 256 s) (short : Short t) (few : b < 2) where
  pub short_says : eqb (head_from s o) (head_of t b) ≡ eqb (bit_in (content (part s o frame_header) t)) b
  unfolding part
  short_says = pick (leb (o + frame_header) (length s)) refl
    where
      pick : (x : Bool) → leb (o + frame_header) (length s) ≡ x
          → eqb (cond x (head_at s o) 0) (head_of t b) ≡ eqb (bit_in (content (cond x (take frame_header (drop o s)) []) t)) b
      pick true h =
          let p = take frame_header (drop o s) in
          let same : head_at p 0 ≡ head_at s o = rw (part_word s o frame_header 0 (omega arith), part_word s o frame_header 4 (omega arith), add-zero) in
          ap (λ (k : ℕ). eqb k (head_of t b)) (sym same)
          ∙ says_head p t b (λ i h. rw (part_byte s o frame_header i h) (bytes (o + i))) (part_length s o frame_header true h) short few
      pick false h = rw (empty_void t, ne_eqb 0 (head_of t b) (λ e. omega (arith, short.least)), ne_eqb 3 b (λ e. omega arith))

-- ---- any other bytes

long_none : (s : List ℕ) (t : ℕ) → Short t → length s ≢ frame_header → content s t ≡ None
long_none s t short long = pick (content s t) refl
  where
    pick : (o : Option Content) → content s t ≡ o → o ≡ None
    pick None q = refl
    pick (Some c) q =
        let g = content_gives s t c q in
        let few = no_numbers (kind_of t) short.least short.most in
        absurd (long (omega (arith, length_fits_lem s g.whole, (body_gives s (kind_of t) g.body).count)))

pub long_void : (s : List ℕ) (o n t : ℕ) → Short t → n ≢ frame_header → content (part s o n) t ≡ None
unfolding part
long_void s o n t short long = pick (leb (o + n) (length s)) refl
  where
    pick : (x : Bool) → leb (o + n) (length s) ≡ x → content (cond x (take n (drop o s)) []) t ≡ None
    pick true h = long_none _ t short (λ e. long (sym (part_length s o n true h) ∙ e))
    pick false h = empty_void t
