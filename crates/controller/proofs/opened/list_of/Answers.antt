-- `controller::opened::list_of` meets its contract: a frame's numbers lie behind its header, in its part of the tray, whose offset is half a word.
use Rattle.std.proofs.Common.{List, Bool, ℕ, zero, suc, [], true, false, cond, ◌*◌, ◌+◌, ◌<◌, ◌∙◌, ◌≡◌, ◌≤◌, take, drop, refl, sym, ap, subst, leb-true, leb}
use Rattle.std.proofs.Common.{length, get_or, length-drop, length-take-le, arith}
use Rattle.std.specs.Prelude.{Option, Some, None}
use Rattle.std.proofs.Math.Decide.{dec_lt}
use Rattle.wire.specs.Frame.{Content, content, count_of}
use Rattle.wire.specs.Laws.Frame.{read_numbers}
use Rattle.wire.specs.Laws.Tray.{part_byte}
use Rattle.wire.specs.Laws.Words.{words_below, words_length}
use Rattle.wire.specs.Limits.{frame_header, number_width}
use Rattle.wire.specs.Notes.{found_by}
use Rattle.wire.specs.Laws.Notes.{found_small}
use Rattle.wire.specs.Tray.{part}
use Rattle.wire.specs.Words.{Below, words_at}
use Rattle.wire.specs.declared.found.Found.TheVariants.{At}
use Rattle.controller.specs.Received.{read_in, list_in}
use Rattle.controller.specs.Work.OpenList.{end_mark}
use Rattle.controller.specs.Work.Opened.{SpanOf}
use Rattle.controller.specs.Work.Received.{noted}
use Rattle.controller.proofs.opened.list_of.Goals as goal

-- bytes that lie in others from o on have the words that lie there
words_part : (s b : List ℕ) (o : ℕ) → ((k : ℕ) → k < length s → get_or s k 0 ≡ get_or b (o + k) 0) → (at n : ℕ) → at + 4 * n ≤ length s
    → words_at s at n ≡ words_at b (o + at) n
words_part s b o same at zero h = refl
words_part s b o same at (suc n) h =
    let byte : (k : ℕ) → k < 4 → get_or s (at + k) 0 ≡ get_or b (o + at + k) 0 =
    λ k l. same (at + k) (omega arith) ∙ ap (λ (p : ℕ). get_or b p 0) (omega arith) in
    let e : o + (at + 4) ≡ o + at + 4 = omega arith in
    rw (same at (omega arith), byte 1 (omega arith), byte 2 (omega arith), byte 3 (omega arith), words_part s b o same (at + 4) n (omega arith), e)

module _ (b : List ℕ) (o n : ℕ) where
  -- a part that has bytes lies in the tray
  part_lies : 0 < length (part b o n) → o + length (part b o n) ≤ length b
  unfolding part
  part_lies = pick (leb (o + n) (length b)) refl
    where
      pick : (t : Bool) → leb (o + n) (length b) ≡ t → 0 < length (cond t (take n (drop o b)) []) → o + length (cond t (take n (drop o b)) []) ≤ length b
      pick true e h =
          let inside : o + n ≤ length b = leb-true (o + n) (length b) e in
          omega (arith, length-take-le n (drop o b) (omega (arith, length-drop o b)))
      pick false e h = absurd (omega arith)

-- the numbers of what is read lie one behind the other from the header's end on, and the bytes hold them all
numbers_lie : (s : List ℕ) (t n : ℕ) (o : Option Content) → content s t ≡ o → n ≡ length (list_in o)
    → (words_at s frame_header n ≡ list_in o) × (0 < n → frame_header + number_width * n ≤ length s)
numbers_lie s t n None h e = (rw e, λ l. absurd (omega arith))
numbers_lie s t n (Some c) h e =
    let read = read_numbers s t c h in
    let same : n ≡ count_of s = e ∙ ap length read.0 ∙ words_length s frame_header (count_of s) in
    (rw same (sym read.0), λ l. omega (arith, same, read.1))

module _ (b : List ℕ) (bytes : Below 256 b) (k t : ℕ) (word : k < 4294967296) where
  found : (o n r : ℕ) (s : List ℕ) → found_by k ≡ At o n → s ≡ part b o n → r ≡ length (list_in (content s t))
      → SpanOf b (list_in (read_in t (noted b k))) (o + 8) r
  found o n r s p e read =
      let s-is : part b o n ≡ s = sym e in
      let low : o < 65536 = (found_small k o n word p).0 in
      let size = rw s-is at (part_lies b o n) in
      let numbers = numbers_lie s t r (content s t) refl read in
      let lie = numbers.1 in
      let words : words_at b (o + 8) r ≡ words_at s frame_header r = elim (dec_lt 0 r) [
        | yes h ↦ sym (words_part s b o (rw s-is at (part_byte b o n)) frame_header r (lie h))
        | no h ↦ let none : r ≡ 0 = omega arith in rw none
      ] in
      let is : words_at b (o + 8) r ≡ list_in (read_in t (noted b k)) = rw (p, s-is) (words ∙ numbers.0) in
      record {
        is = is;
        low = omega arith;
        inside = λ k h. omega (arith, lie (omega arith), size (omega (arith, lie (omega arith))));
        words = subst (Below end_mark) is (words_below b bytes (o + 8) r);
      }

pub returns-in-At-clause-span : goal.returns-in-At-clause-span
returns-in-At-clause-span c =
    let at = sym c.found_by.ensures ∙ c.in-At.is in
    found _ (λ i. (c.type_inv.tray i).fits) _ _ c.ranges.note.fits _ _ _ _ at c.part_of.ensures c.list_count.ensures
