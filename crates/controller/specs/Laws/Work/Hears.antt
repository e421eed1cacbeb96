-- Laws of hearing a tray entry by entry, from the directory's end to its front: what is in hand before an entry, and what is in hand with it.
use Rattle.std.specs.Prelude.{ℕ, zero, suc, ◌+◌, ◌-◌, ◌≤◌, ◌<◌, Bool, true, false, not, cond, ◌&&◌, List, ◌∷◌, ◌≢◌, ◌≡◌, refl, leb, eqb, ltb, length}
use Rattle.std.specs.Prelude.{get_or, set, replicate}
use Rattle.std.proofs.Math.Bool.{and_comm}
use mathlib.Core.List.Memᴰ
use Rattle.std.proofs.Common.{true≢false, inl, inr, sym, ap, subst, ◌∙◌, arith, eq-eqb, ne_eqb, le-leb, le-ltb, length-set, get_or-set_same, get_or-set_other}
use Rattle.std.proofs.Math.Decide.{ℕ_discrete, dec_lt}
use Rattle.std.proofs.Math.Nat.{sub-zero}
use Rattle.std.proofs.lemmas.Bool.{lt-leb}
use Rattle.std.proofs.lemmas.List.{length-replicate, get_or-replicate}
use Rattle.wire.specs.Notes.{no_frame, found_by, note_with, note_from}
use Rattle.wire.specs.Laws.Notes.{note_found, note_none}
use Rattle.wire.specs.Laws.Numbers.{listed_stored}
use Rattle.wire.specs.Limits.{max_numbers}
use Rattle.wire.specs.Numbers.{stored, listed}
use Rattle.wire.specs.Tray.{well_formed, entry_count, sender, place, entries_from, entries}
use Rattle.wire.specs.declared.frame.Numbers.{Numbers}
use Rattle.controller.specs.Lists.{In, mem, insert, insert_all}
use Rattle.controller.specs.State.{sound_list}
use Rattle.controller.specs.Received.{senders}
use Rattle.controller.specs.Work.Lists.{below, inserted_at, opened}
use Rattle.controller.specs.Work.Received.{others_only, heard_after, senders_from, note_on, HearsFrom, Hears}
use Rattle.controller.specs.Laws.Lists.{count_short, get_or_in, in_mem, inside_length, out_mem, insert_in, insert_known, insert_rising, insert_all_in}
use Rattle.controller.specs.Laws.Lists.{rising_at, rising_no_repeats, rising_place}
use Rattle.controller.specs.Laws.Received.{senders_step, sender_in}
use Rattle.controller.specs.Laws.State.{ListTests, sound_list_gives, sound_list_test}
use Rattle.controller.specs.Laws.Work.Lists.{below_length, insert_place, inserted_length, put_before, put_here, inserted_behind, opened_behind, opened_length}

-- ---- the start: no entry yet

pub hears_none : (own : ℕ) (b : List ℕ) (list : Numbers) (f : List ℕ) (i : ℕ) → i ≡ entry_count b → sound_list list ≡ true
    → f ≡ replicate max_numbers no_frame → HearsFrom own b (listed list) list f i
hears_none own b list f i e s z =
    let nothing_left : entry_count b - i ≡ 0 = omega arith in
    let short = (sound_list_gives list s).list.short in
    record {
      inside = omega arith;
      sound = s;
      heard = rw nothing_left;
      others = λ x j. absurd (Memᴰ.not-nil (rw nothing_left at j));
      places = ap length z ∙ length-replicate max_numbers no_frame;
      notes = λ j h. rw (nothing_left, z) (get_or-replicate max_numbers j no_frame 0 (omega arith));
    }

-- ---- one entry more

module _ {own : ℕ} {b l : List ℕ} {list : Numbers} {f : List ℕ} {i : ℕ} (h : i < entry_count b) (so_far : HearsFrom own b l list f (i + 1)) where
  abbrev x : ℕ
  x = sender b i

  was : ListTests list
  was = sound_list_gives list so_far.sound

  rest_step : senders_from b i ≡ x ∷ senders_from b (i + 1)
  rest_step = senders_step b (entry_count b) i h

  note_step : (y : ℕ) → note_on b y i ≡ cond (eqb x y) (note_with b (note_on b y (i + 1)) (place b i)) (note_on b y (i + 1))
  note_step y = let e : entry_count b - i ≡ suc (entry_count b - (i + 1)) = omega arith in rw e

  -- the sender is known
  module _ (there : In x (listed list)) where
    below_other : (j : ℕ) → j < length (listed list) → j ≢ below x (listed list) → x ≢ get_or (listed list) j 0
    below_other j k apart e = apart (sym (rising_at (listed list) j was.list.rises k) ∙ ap (λ y. below y (listed list)) (sym e))

    pub known_short : below x (listed list) < length (listed list)
    known_short = count_short (λ y. ltb y x) x there (le-ltb x x (omega arith))

    known_notes : (p q : ℕ) → p ≡ below x (listed list) → q ≡ note_with b (get_or f p 0) (place b i)
        → (j : ℕ) → j < length (listed list) → get_or (set f p q) j 0 ≡ note_on b (get_or (listed list) j 0) i
    known_notes p q at is j k = elim (ℕ_discrete j p) [
      | yes e ↦
          let here : get_or (listed list) j 0 ≡ x = ap (λ (m : ℕ). get_or (listed list) m 0) (e ∙ at) ∙ rising_place x (listed list) was.list.rises there in
          let put : get_or (set f p q) j 0 ≡ q =
          ap (λ (m : ℕ). get_or (set f p q) m 0) e ∙ get_or-set_same f p q 0 (omega (arith, so_far.places, was.list.short)) in
          let old : get_or f p 0 ≡ note_on b x (i + 1) = ap (λ (m : ℕ). get_or f m 0) (sym e) ∙ so_far.notes j k ∙ ap (λ (y : ℕ). note_on b y (i + 1)) here in
          put ∙ is ∙ rw (here, note_step x, eq-eqb x x refl, old)
      | no d ↦
          let other : x ≢ get_or (listed list) j 0 = below_other j k (λ e. d (e ∙ sym at)) in
          get_or-set_other f p j q 0 d ∙ so_far.notes j k ∙ sym (note_step (get_or (listed list) j 0) ∙ rw (ne_eqb x (get_or (listed list) j 0) other))
    ]

    pub hears_known : x ≢ own → (p q : ℕ) → p ≡ below x (listed list) → q ≡ note_with b (get_or f p 0) (place b i) → HearsFrom own b l list (set f p q) i
    hears_known apart p q at is =
        record {
          inside = omega arith;
          sound = so_far.sound;
          heard = sym (insert_known x (listed list) was.list.rises there) ∙ ap (insert x) so_far.heard ∙ ap (λ m. insert_all m l) (sym rest_step);
          others = λ y j. elim (Memᴰ.cases_cons (subst (In y) rest_step j)) [
            | inl e ↦ (λ z. omega (arith, was.list.positive x there, e), λ o. apart (sym e ∙ o))
            | inr k ↦ so_far.others y k
          ];
          places = length-set f p q ∙ so_far.places;
          notes = known_notes p q at is;
        }

  -- the sender is new
  module _ (out : ¬ In x (listed list)) where
    grows : length (insert x (listed list)) ≡ list.len + 1
    grows =
        ap length (sym (insert_place x (listed list) was.list.rises out))
        ∙ inserted_length (below x (listed list)) x (listed list) (below_length x (listed list))
        ∙ rw was.used

    now_heard : insert x (listed list) ≡ insert_all (senders_from b i) l
    now_heard = ap (insert x) so_far.heard ∙ ap (λ m. insert_all m l) (sym rest_step)

    -- it has no note yet
    unnoted : note_on b x (i + 1) ≡ no_frame
    unnoted =
        note_none b x (entry_count b - (i + 1)) (i + 1)
        (λ j. out (subst (In x) (sym so_far.heard) ((insert_all_in (senders_from b (i + 1)) l).1 (inl j))))

    module _ (p : ℕ) (at : p ≡ below x (listed list)) (room : list.len < max_numbers) where
      -- the list with the number, and a place of it that is not the number's own
      abbrev longer : List ℕ
      longer = inserted_at p x (listed list)

      longer_is : longer ≡ insert x (listed list)
      longer_is = ap (λ (q : ℕ). inserted_at q x (listed list)) at ∙ insert_place x (listed list) was.list.rises out

      small : p ≤ list.len
      small = omega (arith, at, below_length x (listed list), was.used)

      old_note : (k : ℕ) → k < list.len → get_or f k 0 ≡ note_on b (get_or (listed list) k 0) i
      old_note k h =
          let y = get_or (listed list) k 0 in
          let inside : k < length (listed list) = omega (arith, was.used) in
          let other : x ≢ y = λ e. out (Memᴰ.cast e (get_or_in (listed list) k inside)) in
          so_far.notes k inside ∙ sym (note_step y ∙ rw (ne_eqb x y other))

      new_notes : (j : ℕ) → j < list.len + 1 → get_or (opened p (place b i) list.len f) j 0 ≡ note_on b (get_or longer j 0) i
      new_notes j h = elim (ℕ_discrete j p) [
        | yes e ↦
            let here : get_or longer j 0 ≡ x = ap (λ (m : ℕ). get_or longer m 0) e ∙ put_here p x (listed list) _ (omega (arith, small, was.used)) in
            let put : get_or (opened p (place b i) list.len f) j 0 ≡ place b i =
            ap (λ (m : ℕ). get_or (opened p (place b i) list.len f) m 0) e ∙ put_here p (place b i) f _ (omega (arith, small, so_far.places)) in
            put ∙ rw (here, note_step x, eq-eqb x x refl, unnoted)
        | no d ↦ elim (dec_lt j p) [
          | yes q ↦
              put_before p (place b i) f _ (omega (arith, small, so_far.places)) j q
              ∙ old_note j (omega (arith, small))
              ∙ ap (λ (y : ℕ). note_on b y i) (sym (put_before p x (listed list) _ (omega (arith, small, was.used)) j q))
          | no q ↦
              opened_behind p (place b i) list.len f j (omega (arith, so_far.places)) (omega arith) (omega arith)
              ∙ old_note (j - 1) (omega arith)
              ∙ ap (λ (y : ℕ). note_on b y i) (sym (inserted_behind p x (listed list) j (omega (arith, small, was.used)) (omega arith)))
        ]
      ]

      pub hears_new : x ≢ 0 → x ≢ own → (more : Numbers) → more ≡ stored longer → (g : List ℕ) → g ≡ opened p (place b i) list.len f
          → HearsFrom own b l more g i
      hears_new positive apart more puts g opens =
          let new : more ≡ stored (insert x (listed list)) = puts ∙ ap stored longer_is in
          let is : listed more ≡ longer = ap listed puts ∙ listed_stored longer in
          record {
            inside = omega arith;
            sound = rw new
                (sound_list_test (insert x (listed list))
                record {
                  short = omega (arith, grows);
                  rises = insert_rising x (listed list) was.list.rises;
                  positive = λ y j. elim ((insert_in x (listed list)).0 j) [ inl e ↦ omega (arith, e, positive) | inr k ↦ was.list.positive y k ];
                });
            heard = is ∙ longer_is ∙ now_heard;
            others = λ y j. elim (Memᴰ.cases_cons (subst (In y) rest_step j)) [
              | inl e ↦ (λ z. positive (sym e ∙ z), λ o. apart (sym e ∙ o))
              | inr k ↦ so_far.others y k
            ];
            places = ap length opens ∙ opened_length p (place b i) list.len f small (omega (arith, so_far.places)) ∙ so_far.places;
            notes = λ j h.
                let inside : j < list.len + 1 = omega (arith, ap length is, inserted_length p x (listed list) (omega (arith, small, was.used)), was.used) in
                ap (λ (m : List ℕ). get_or m j 0) opens ∙ new_notes j inside ∙ ap (λ (m : List ℕ). note_on b (get_or m j 0) i) (sym is);
          }

-- ---- the end: no entry is left

hears_others : (own : ℕ) (xs : List ℕ) → ((x : ℕ) → In x xs → (x ≢ 0) × (x ≢ own)) → others_only own xs ≡ true
hears_others own xs all = rw (out_mem xs (λ i. (all 0 i).0 refl), out_mem xs (λ i. (all own i).1 refl))

module _ {own : ℕ} {b l : List ℕ} {list : Numbers} {f : List ℕ} (packed : well_formed b ≡ true) (done : HearsFrom own b l list f 0) where
  rest_all : senders_from b 0 ≡ senders (entries b)
  unfolding entries
  rest_all = rw sub-zero

  all_heard : listed list ≡ heard_after b l
  all_heard = done.heard ∙ ap (λ m. insert_all m l) rest_all

  pub hears_all : Hears own b l true list f
  hears_all =
      let was = sound_list_gives list done.sound in
      let used : list.len ≡ length (heard_after b l) = sym was.used ∙ ap length all_heard in
      let others = hears_others own (senders (entries b)) (λ x j. done.others x (subst (In x) (sym rest_all) j)) in
      record {
        fits = rw (others, ← used, le-leb list.len max_numbers (omega (arith, was.used, was.list.short)));
        list = λ h. sym was.back ∙ ap stored all_heard;
        notes = λ h j k.
            let y = get_or (heard_after b l) j 0 in
            let inside : j < length (listed list) = omega (arith, ap length all_heard) in
            let whole : entry_count b - 0 ≡ entry_count b = omega arith in
            let is = done.notes j inside ∙ ap (λ (m : List ℕ). note_on b (get_or m j 0) 0) all_heard ∙ ap (λ (n : ℕ). note_from b y n 0) whole in
            ap found_by is ∙ note_found b packed y;
      }

-- ---- the refusals

pub refused : (own : ℕ) (b l : List ℕ) (n : Numbers) (f : List ℕ)
    → (others_only own (senders (entries b)) && leb (length (heard_after b l)) max_numbers) ≡ false → Hears own b l false n f
refused own b l n f unfit = record { fits = sym unfit; list = λ t. absurd (true≢false (sym t)); notes = λ t. absurd (true≢false (sym t)) }

-- a sender is the own number, or 0
pub hears_own : (own : ℕ) (b l : List ℕ) (i : ℕ) (n : Numbers) (f : List ℕ) → i < entry_count b → sender b i ≡ own → Hears own b l false n f
hears_own own b l i n f h e =
    refused own b l n f
    (rw (in_mem (Memᴰ.cast (sym e) (sender_in b i h))) (pick (not (mem 0 (senders (entries b)))) (leb (length (heard_after b l)) max_numbers)))
  where
    pick : (t u : Bool) → (t && false && u) ≡ false
    pick true u = refl
    pick false u = refl

pub hears_zero : (own : ℕ) (b l : List ℕ) (i : ℕ) (n : Numbers) (f : List ℕ) → i < entry_count b → sender b i ≡ 0 → Hears own b l false n f
hears_zero own b l i n f h e = refused own b l n f (rw (in_mem (Memᴰ.cast (sym e) (sender_in b i h))))

-- a sender from entry i on is a sender
rest_inside : (b : List ℕ) (n i y : ℕ) → i + n ≤ entry_count b → In y (senders (entries_from b n i)) → In y (senders (entries b))
rest_inside b zero i y h j = absurd (Memᴰ.not-nil j)
rest_inside b (suc n) i y h j = elim (Memᴰ.cases_cons j) [
  | inl e ↦ Memᴰ.cast e (sender_in b i (omega arith))
  | inr k ↦ rest_inside b n (i + 1) y (omega arith) k
]

-- a sender is new, and as many as can be are heard already
pub hears_full : {own : ℕ} {b l : List ℕ} {list : Numbers} {f : List ℕ} {i : ℕ} → i < entry_count b → HearsFrom own b l list f (i + 1)
    → (¬ In (sender b i) (listed list)) → max_numbers ≤ list.len → (n : Numbers) (g : List ℕ) → Hears own b l false n g
hears_full {own} {b} {l} {list} {f} {i} h so_far out full n g =
    let x = sender b i in
    let rises = (sound_list_gives list so_far.sound).list.rises in
    let more : list.len + 1 ≤ length (heard_after b l) =
    rw (← grows h so_far out)
    (inside_length (insert x (listed list)) {m = heard_after b l} (rising_no_repeats (insert x (listed list)) (insert_rising x (listed list) rises))
    (λ y j. elim ((insert_all_in (senders_from b i) l).0 (subst (In y) (now_heard h so_far out) j)) [
      | inl k ↦ (insert_all_in (senders (entries b)) l).1 (inl (rest_inside b (entry_count b - i) i y (omega arith) k))
      | inr k ↦ (insert_all_in (senders (entries b)) l).1 (inr k)
    ])) in
    refused own b l n g (rw (lt-leb (length (heard_after b l)) max_numbers (omega arith)) (and_comm (others_only own (senders (entries b))) false))
