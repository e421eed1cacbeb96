-- Laws of what a step finds: those heard, the note on each of them, and what is received under each.
use Rattle.std.specs.Prelude.{ℕ, ◌/◌, ◌%◌, ◌≤◌, ◌<◌, Bool, false, cond, List, ◌≢◌, ◌≡◌, refl, leb, ltb, eqb, length}
use Rattle.std.proofs.Math.Bool.{true}
use Rattle.std.proofs.Common.{true≢false, sym, ap, ◌∙◌, arith, eq-eqb, ne_eqb, le-ltb, get_or-take}
use mathlib.Core.List.Memᴰ
use Rattle.std.specs.Prelude.{Some, None}
use Rattle.std.proofs.Math.ListN.{get_or}
use Rattle.wire.specs.Frame.{kind_of, bit_in}
use Rattle.wire.specs.Limits.{max_numbers}
use Rattle.wire.specs.Numbers.{listed}
use Rattle.wire.specs.Found.{meaning, under}
use Rattle.wire.specs.Laws.Found.{found_meaning, under_nothing}
use Rattle.wire.specs.Notes.{no_frame, different}
use Rattle.wire.specs.Tray.{entries}
use Rattle.wire.specs.declared.found.Found.TheVariants.{At, Nothing, Several}
use Rattle.wire.specs.declared.frame.Numbers.{Numbers}
use Rattle.controller.specs.Laws.Lists.{get_or_in, in_mem, mem_in, mem_out, count_short, rising_place}
use Rattle.controller.specs.Laws.Received.{unheard_received, received_other, silent_bit, frame_bit, stand_in_bit, stand_in_list, received_says}
use Rattle.controller.specs.Laws.Received.{received_opinion}
use Rattle.controller.specs.Laws.State.{Sound, rules_give, sound_list_gives, rules_heard}
use Rattle.controller.specs.Laws.Work.Tally.{nth_list}
use Rattle.controller.specs.Lists.{In, mem}
use Rattle.controller.specs.Received.{frame_of, stand_in, read_in, is_nothing, receive, list_in, says, opinion_in, lists}
use Rattle.controller.specs.State.{view, sound_list}
use Rattle.controller.specs.Work.Lists.{below}
use Rattle.controller.specs.Work.Received.{noted, received_by, Ready, bit_under}
use Rattle.controller.specs.declared.state.State.{State}

-- a number of a sound list stands at its place
pub list_place : (n : Numbers) → sound_list n ≡ true → (x : ℕ) → mem x (listed n) ≡ true
    → (below x (listed n) < n.len) × (get_or n.at (below x (listed n)) 0 ≡ x)
list_place n h x t =
    let tests = sound_list_gives n h in
    let i : In x (listed n) = mem_in (listed n) t in
    let inside : below x (listed n) < n.len = omega (arith, tests.used, count_short (λ y. ltb y x) x i (le-ltb x x (omega arith))) in
    (inside, sym (get_or-take n.len n.at (below x (listed n)) 0 inside) ∙ rising_place x (listed n) tests.list.rises i)

-- the note that says nothing
noted_nothing : (b : List ℕ) (k : ℕ) → is_nothing (noted b k) ≡ eqb k no_frame
noted_nothing b k = pick (eqb k no_frame) (eqb k different)
  where
    pick : (s t : Bool) → is_nothing (meaning b (cond s Nothing (cond t Several (At (k / 65536) (k % 65536))))) ≡ s
    pick true t = refl
    pick false true = refl
    pick false false = refl

module _ {s : State} {b f : List ℕ} (ready : Ready s b f) where
  pub ready_listed : listed s.heard ≡ (received_by s b).heard
  ready_listed = sym ready.heard

  pub ready_used : length (listed s.heard) ≡ s.heard.len
  ready_used = (sound_list_gives s.heard (rules_heard s ready.sound)).used

  pub ready_size : s.heard.len ≡ length (received_by s b).heard
  ready_size = sym ready_used ∙ ap length ready_listed

  pub ready_few : s.heard.len ≤ max_numbers
  ready_few = omega (arith, ready_used, (sound_list_gives s.heard (rules_heard s ready.sound)).list.short)

  pub ready_short : length (received_by s b).heard ≤ max_numbers
  ready_short = omega (arith, ready_size, ready_few)

  -- what the note on the number at place j says
  ready_told : (j : ℕ) → j < s.heard.len → noted b (get_or f j 0) ≡ under (get_or (listed s.heard) j 0) (entries b)
  ready_told j h = ap (meaning b) (ready.notes j (omega (arith, h, ready_used))) ∙ found_meaning b (get_or (listed s.heard) j 0)

  ready_nothing : (j : ℕ) → j < s.heard.len → is_nothing (under (get_or (listed s.heard) j 0) (entries b)) ≡ eqb (get_or f j 0) no_frame
  ready_nothing j h = ap is_nothing (sym (ready_told j h)) ∙ noted_nothing b (get_or f j 0)

  -- one that has an entry is not oneself, and its frame is read
  pub ready_read : (j : ℕ) → j < s.heard.len → eqb (get_or f j 0) no_frame ≡ false
      → (received_by s b).from (get_or (listed s.heard) j 0) ≡ read_in s.round (noted b (get_or f j 0))
  ready_read j h entry =
      let x = get_or (listed s.heard) j 0 in
      let there : is_nothing (under x (entries b)) ≡ false = ready_nothing j h ∙ entry in
      let other : x ≢ s.own = λ e.
      let nothing : is_nothing (under x (entries b)) ≡ true = ap is_nothing (under_nothing x (entries b) (λ i. ready.others (Memᴰ.cast (sym e) i))) in
      true≢false (sym nothing ∙ there) in
      received_other (view s) (entries b) x other there ∙ ap (read_in s.round) (sym (ready_told j h))

  -- one that has none is oneself, or silent
  pub ready_absent : (j : ℕ) → j < s.heard.len → eqb (get_or f j 0) no_frame ≡ true
      → (received_by s b).from (get_or (listed s.heard) j 0)
      ≡ cond (eqb (get_or (listed s.heard) j 0) s.own) (Some (frame_of (view s))) (Some (stand_in (view s)))
  unfolding receive
  ready_absent j h absent =
      let x = get_or (listed s.heard) j 0 in
      let known : mem x (listed s.heard) ≡ true = in_mem (get_or_in (listed s.heard) j (omega (arith, h, ready_used))) in
      rw (known, ready_nothing j h ∙ absent)

  -- the list received under the number at place j
  pub ready_list : (j : ℕ) → j < s.heard.len
      → cond (eqb (get_or f j 0) no_frame) (list_in (Some (frame_of (view s)))) (list_in (read_in s.round (noted b (get_or f j 0))))
      ≡ nth_list (lists (received_by s b)) j
  ready_list j h = pick (eqb (get_or f j 0) no_frame) refl ∙ ap (λ (l : List ℕ). list_in ((received_by s b).from (get_or l j 0))) ready_listed
    where
      own_list : (t : Bool) → list_in (Some (frame_of (view s))) ≡ list_in (cond t (Some (frame_of (view s))) (Some (stand_in (view s))))
      own_list true = refl
      own_list false = sym (stand_in_list (view s))

      pick : (t : Bool) → eqb (get_or f j 0) no_frame ≡ t
          → cond t (list_in (Some (frame_of (view s)))) (list_in (read_in s.round (noted b (get_or f j 0))))
          ≡ list_in ((received_by s b).from (get_or (listed s.heard) j 0))
      pick true e = own_list (eqb (get_or (listed s.heard) j 0) s.own) ∙ sym (ap list_in (ready_absent j h e))
      pick false e = sym (ap list_in (ready_read j h e))

  -- the bit received under the number at place j; the own frame and what stands in for one that is silent say the same, but for an opinion
  ready_bit : (j d : ℕ) → j < s.heard.len
      → d ≡ cond (eqb (get_or (listed s.heard) j 0) s.own) s.said (silent_bit (view s))
      → bit_under s.round d b (get_or f j 0) ≡ bit_in ((received_by s b).from (get_or (listed s.heard) j 0))
  ready_bit j d h absent = pick (eqb (get_or f j 0) no_frame) refl
    where
      good : Sound (view s)
      good = rules_give s ready.sound

      own_bit : (t : Bool) → cond t s.said (silent_bit (view s)) ≡ bit_in (cond t (Some (frame_of (view s))) (Some (stand_in (view s))))
      own_bit true = sym (frame_bit (view s) good ready.active)
      own_bit false = sym (stand_in_bit (view s) good ready.active)

      pick : (t : Bool) → eqb (get_or f j 0) no_frame ≡ t
          → cond t d (bit_in (read_in s.round (noted b (get_or f j 0)))) ≡ bit_in ((received_by s b).from (get_or (listed s.heard) j 0))
      pick true e = absent ∙ own_bit (eqb (get_or (listed s.heard) j 0) s.own) ∙ sym (ap bit_in (ready_absent j h e))
      pick false e = sym (ap bit_in (ready_read j h e))

  -- what it tells where it is no opinion
  pub ready_says : (j bit : ℕ) → j < s.heard.len → bit < 3 → kind_of s.round ≢ 5
      → eqb (bit_under s.round s.said b (get_or f j 0)) bit
      ≡ says (kind_of s.round) bit ((received_by s b).from (get_or (listed s.heard) j 0))
  ready_says j bit h l other =
      ap (λ (d : ℕ). eqb d bit) (ready_bit j s.said h (rw (ne_eqb (kind_of s.round) 5 other) (pick (eqb (get_or (listed s.heard) j 0) s.own))))
      ∙ received_says (view s) (entries b) (get_or (listed s.heard) j 0) bit l
    where
      pick : (t : Bool) → s.said ≡ cond t s.said s.said
      pick true = refl
      pick false = refl

  -- and where it is: the number x stands at place j, and d is what it says if it has no entry
  pub ready_opinion : kind_of s.round ≡ 5 → (j x d : ℕ) → j < s.heard.len → get_or s.heard.at j 0 ≡ x → d ≡ cond (eqb x s.own) s.said 2
      → opinion_in ((received_by s b).from x)
      ≡ cond (leb (bit_under s.round d b (get_or f j 0)) 1) (bit_under s.round d b (get_or f j 0)) 2
  ready_opinion k j x d h e absent =
      let there : get_or (listed s.heard) j 0 ≡ x = get_or-take s.heard.len s.heard.at j 0 h ∙ e in
      let bit : bit_under s.round d b (get_or f j 0) ≡ bit_in ((received_by s b).from x) =
      ready_bit j d h (rw (there, eq-eqb (kind_of s.round) 5 k) absent) ∙ ap (λ (y : ℕ). bit_in ((received_by s b).from y)) there in
      received_opinion (view s) (entries b) (rules_give s ready.sound) ready.active k x ∙ ap (λ (q : ℕ). cond (leb q 1) q 2) (sym bit)

  -- of one that is not heard nothing is received
  pub ready_unheard : (x : ℕ) → mem x (listed s.heard) ≡ false → (received_by s b).from x ≡ None
  ready_unheard x t = unheard_received (view s) (entries b) (rules_give s ready.sound) x (mem_out (received_by s b).heard (ap (mem x) ready.heard ∙ t))
