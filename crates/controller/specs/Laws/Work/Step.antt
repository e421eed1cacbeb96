-- Laws of the step as the code makes it: what it finds, and that the stored state it leaves is the one that the rules give.
use Rattle.std.specs.Prelude.{ℕ, ◌+◌, ◌/◌, ◌≤◌, ◌<◌, Bool, false, cond, ◌&&◌, List, refl, eqb, get_or}
use Rattle.std.proofs.Math.Bool.{true}
use Rattle.std.proofs.Common.{[], true≢false, inl, inr, ◌∙◌, arith, leb-true, le-leb, ne_eqb}
use Rattle.std.proofs.Math.Path.{◌≡◌, sym, ap}
use Rattle.std.proofs.Math.Dec.{leb}
use Rattle.std.proofs.Math.ListN.{length, get_or-eq_default}
use Rattle.wire.specs.Frame.{kind_of}
use Rattle.wire.specs.Heads.{Short}
use Rattle.wire.specs.Laws.Numbers.{listed_stored}
use Rattle.wire.specs.Limits.{max_numbers}
use Rattle.wire.specs.Numbers.{stored, listed}
use Rattle.wire.specs.Found.{found}
use Rattle.wire.specs.Notes.{found_by}
use Rattle.wire.specs.Tray.{well_formed, entries}
use Rattle.wire.specs.declared.frame.Numbers.{Numbers}
use Rattle.controller.specs.Lists.{In}
use Rattle.controller.specs.State.{View, Rotor, view, stored_state, sound_rules, undecided, bit_part, state_from}
use Rattle.controller.specs.Received.{Received, ReceivedLists, senders, says, lists}
use Rattle.controller.specs.Rotation.{roster, candidates_after, decides, king_after}
use Rattle.controller.specs.Bit.{phase, bit_taken, decision_after, value_said, value_two_thirds, proposal}
use Rattle.controller.specs.Rules.{make_roster, make_propose, make_turn, next}
use Rattle.controller.specs.Work.Received.{received_by, Ready, CountsBits}
use Rattle.controller.specs.Work.Tally.{candidates_of, echoes_of, GrowsLists}
use Rattle.controller.specs.Work.Bit.{proposed_from, TurnsBit}
use Rattle.controller.specs.Work.Step.{named_state, Makes}
use Rattle.controller.specs.Laws.Lists.{true_or_false, keep_length}
use Rattle.controller.specs.Laws.State.{rules_give, rules_round, rules_stored}
use Rattle.controller.specs.Laws.Work.Ready.{ready_size, ready_short}
use Rattle.controller.specs.Laws.Rules.{kind_init, kind_before, bit_taken_bound, heard_known}
use Rattle.controller.specs.Laws.Rules.{step_kind_roster, step_kind_value, step_kind_propose, step_kind_turn}
use Rattle.controller.specs.declared.state.State.{State}
use Rattle.controller.specs.declared.counts.Counts.{Counts}
use Rattle.controller.specs.declared.bit.Turn.{Turn}

-- ---- what a step finds

-- a tray whose senders are all heard, with the notes on them
pub ready_found : (s : State) (b f : List ℕ) → sound_rules s ≡ true → undecided (view s) ≡ true → well_formed b ≡ true
    → ((x : ℕ) → In x (senders (entries b)) → In x (listed s.heard))
    → (¬ In s.own (senders (entries b)))
    → ((j : ℕ) → j < length (listed s.heard) → found_by (get_or f j 0) ≡ found b (get_or (listed s.heard) j 0)) → Ready s b f
ready_found s b f h active packed known others notes =
    let heard = (rules_give s h).heard in
    record {
      sound = h;
      active = active;
      packed = packed;
      numbered = λ i. omega (arith, heard.positive 0 (known 0 i));
      others = others;
      heard = heard_known (view s) (entries b) heard.rises known;
      notes = notes;
    }

-- ---- the lists that a step leaves as they were

record Kept (s : State) : Type 0 where
  few_candidates : length (listed s.candidates) ≤ max_numbers
  few_echoes : length (listed s.echoes) ≤ max_numbers
  heard : stored (listed s.heard) ≡ s.heard
  candidates : stored (listed s.candidates) ≡ s.candidates
  echoes : stored (listed s.echoes) ≡ s.echoes

kept : (s : State) → sound_rules s ≡ true → Kept s
kept s h =
    let v = rules_give s h in
    let back = rules_stored s h in
    record {
      few_candidates = v.candidates.short;
      few_echoes = v.echoes.short;
      heard = ap (λ (t : State). t.heard) back;
      candidates = ap (λ (t : State). t.candidates) back;
      echoes = ap (λ (t : State). t.echoes) back;
    }

-- a state w whose lists fit is the one that is made
makes : (s : State) (b : List ℕ) (w : View) (t : State) → next (view s) (entries b) ≡ w
    → length w.rotor.candidates ≤ max_numbers → length w.rotor.echoes ≤ max_numbers → t ≡ stored_state w s.since
    → Makes s b true t
makes s b w t e candidates echoes made =
    record {
      fits = rw (e, le-leb _ _ candidates, le-leb _ _ echoes);
      made = λ q. made ∙ ap (λ (u : View). stored_state u s.since) (sym e);
      kept = λ q. absurd (true≢false q);
    }

-- what is proposed, from the counts of values
proposed_is : (r : Received) (n : Counts) (h : ℕ) → CountsBits 3 r n → h ≡ length r.heard → proposed_from n.zeros n.ones h ≡ proposal r
unfolding proposed_from proposal value_two_thirds
proposed_is r n h counts e = rw (counts.zeros, counts.ones, e)

-- ---- the states that are made

module _ {s : State} {b f : List ℕ} (r : Ready s b f) where
  -- those heard, which no step changes here
  heard_made : s.heard ≡ stored (received_by s b).heard
  heard_made = sym (ap stored r.heard ∙ (kept s r.sound).heard)

  -- making round 2 finds no echoes
  pub echoes_empty : kind_of (s.round + 1) ≡ 2 → s.echoes.at ≡ (stored []).at
  echoes_empty k =
      let v = rules_give s r.sound in
      let none : listed s.echoes ≡ [] = v.no_echoes (omega (arith, kind_init s.round v.early k)) in
      ap (λ (n : Numbers). n.at) (sym (kept s r.sound).echoes ∙ ap stored none)

  -- before a frame of kind 4 or 5 is made, the frames list nothing
  pub ready_short_round : (k : ℕ) → k < 2 → kind_of (s.round + 1) ≡ 4 + k → Short s.round
  ready_short_round k few next =
      let kind = kind_before s.round k (rules_give s r.sound).early next in
      record { fits = rules_round s r.sound; least = omega arith; most = omega arith }

  -- and their bits are counted under the kind before that one
  pub counted : {n : Counts} (k : ℕ) → kind_of (s.round + 1) ≡ 4 + k → CountsBits (kind_of s.round) (received_by s b) n
      → CountsBits (3 + k) (received_by s b) n
  counted k next counts = rw (kind_before s.round k (rules_give s r.sound).early next) at counts

  roster_few : length (roster (received_by s b)) ≤ max_numbers
  unfolding roster
  roster_few = omega (arith, keep_length (λ (x : ℕ). says 1 2 ((received_by s b).from x)) (received_by s b).heard, ready_short r)

  pub roster_made : (echoes : Numbers) → kind_of (s.round + 1) ≡ 2 → echoes ≡ stored (roster (received_by s b))
      → Makes s b true (state_from s.own (s.round + 1) (bit_part s) s.king s.heard s.candidates echoes s.since)
  roster_made echoes k made =
      let old = kept s r.sound in
      let heard = heard_made in
      let candidates = sym old.candidates in
      makes s b (make_roster (view s) (received_by s b)) _ (step_kind_roster (view s) (received_by s b) k) old.few_candidates roster_few
      (λ i. state_from s.own (s.round + 1) (bit_part s) s.king (heard i) (candidates i) (made i) s.since)

  pub propose_made : (n : Counts) (said : ℕ) → kind_of (s.round + 1) ≡ 4
      → CountsBits 3 (received_by s b) n → said ≡ proposed_from n.zeros n.ones s.heard.len
      → Makes s b true (state_from s.own (s.round + 1) (record { own = s.bit; said = said; strong = s.strong; decision = s.decision })
      s.king s.heard s.candidates s.echoes s.since)
  propose_made n said k counts proposed =
      let old = kept s r.sound in
      let heard = heard_made in
      let candidates = sym old.candidates in
      let echoes = sym old.echoes in
      let made : said ≡ proposal (received_by s b) = proposed ∙ proposed_is (received_by s b) n s.heard.len counts (ready_size r) in
      makes s b (make_propose (view s) (received_by s b)) _ (step_kind_propose (view s) (received_by s b) k) old.few_candidates old.few_echoes
      (λ i. state_from s.own (s.round + 1) (record { own = s.bit; said = made i; strong = s.strong; decision = s.decision })
      s.king (heard i) (candidates i) (echoes i) s.since)

  pub turn_made : (t : Turn) → kind_of (s.round + 1) ≡ 5 → TurnsBit (view s) (received_by s b) t
      → Makes s b true (state_from s.own (s.round + 1) (record { own = t.bit; said = t.said; strong = t.strong; decision = s.decision })
      s.king s.heard s.candidates s.echoes s.since)
  turn_made t k made =
      let old = kept s r.sound in
      let heard = heard_made in
      let candidates = sym old.candidates in
      let echoes = sym old.echoes in
      let bit = made.bit in
      let said = made.said in
      let strong = made.strong in
      makes s b (make_turn (view s) (received_by s b)) _ (step_kind_turn (view s) (received_by s b) k) old.few_candidates old.few_echoes
      (λ i. state_from s.own (s.round + 1) (record { own = bit i; said = said i; strong = strong i; decision = s.decision })
      s.king (heard i) (candidates i) (echoes i) s.since)

-- the king that one names who has not decided, if it does not decide now: behind the last candidate there is none
king_named : {u : Bool} → u ≡ true → (r : ℕ) (c : Rotor) (l : ReceivedLists) → king_after u r c l ≡ get_or (candidates_after c l) r 0
unfolding king_after decides
king_named active r c l = rw active (elim (true_or_false (leb (length (candidates_after c l)) r)) [
  | inl t ↦ rw t (sym (get_or-eq_default (candidates_after c l) 0 (leb-true _ _ t)))
  | inr t ↦ rw t
])

-- what one who has not decided decides and says with a value
value_ends : (v : View) (r : Received) → undecided v ≡ true → bit_taken v r ≤ 1
    → (decision_after v r ≡ cond (leb (length (candidates_after v.rotor (lists r))) (phase v)) (bit_taken v r) v.bit.decision)
    × (value_said v r ≡ cond (leb (length (candidates_after v.rotor (lists r))) (phase v)) 2 (bit_taken v r))
unfolding value_said decision_after decides
value_ends v r active small = rw active (refl, pick (leb (length (candidates_after v.rotor (lists r))) (phase v)))
  where
    pick : (t : Bool) → cond (eqb (cond t (bit_taken v r) v.bit.decision) 2) (bit_taken v r) 2 ≡ cond t 2 (bit_taken v r)
    pick true = rw (ne_eqb (bit_taken v r) 2 (λ q. omega arith))
    pick false = rw active

-- a state t whose lists have grown, in the making of round 3 + 3r with the bit that is taken, before (c)
abbrev pub valued : State → ℕ → State
valued t bit =
    state_from t.own (t.round + 1) (record { own = bit; said = bit; strong = t.strong; decision = t.decision })
    t.king t.heard t.candidates t.echoes t.since

module _ {s : State} {b f : List ℕ} (r : Ready s b f) (kind : kind_of (s.round + 1) ≡ 3) {fits : Bool} {t : State} (grows : GrowsLists s b fits t) where
  pub value_made : (bit : ℕ) (u : State) → fits ≡ true → bit ≡ bit_taken (view s) (received_by s b) → u ≡ named_state (valued t bit) (s.round / 3)
      → Makes s b true u
  unfolding named_state
  value_made bit u fit taken named =
      let v = view s in
      let received = received_by s b in
      let next-is = step_kind_value v received kind in
      let all : (leb (length (candidates_of s b)) max_numbers && leb (length (echoes_of s b)) max_numbers) ≡ true = sym grows.fits ∙ fit in
      let heard = heard_made r in
      let grown = grows.grown fit in
      let after = state_from s.own s.round (bit_part s) s.king s.heard (stored (candidates_of s b)) (stored (echoes_of s b)) s.since in
      let done = named_state (valued after bit) (s.round / 3) in
      let named-king = king_named r.active (phase v) v.rotor (lists received) in
      let king : done.king ≡ king_after (undecided v) (phase v) v.rotor (lists received) = rw (listed_stored (candidates_of s b)) (sym named-king) in
      let small = bit_taken_bound v received (rules_give s r.sound).bit in
      let ends = value_ends v received r.active small in
      let said : done.said ≡ value_said v received = rw taken (sym ends.1) in
      let decision : done.decision ≡ decision_after v received = rw taken (sym ends.0) in
      record {
        fits = sym all ∙ rw next-is;
        made = λ q. named ∙ ap (λ (x : State). named_state (valued x bit) (s.round / 3)) grown
            ∙ (λ i. state_from s.own (s.round + 1) (record { own = taken i; said = said i; strong = s.strong; decision = decision i })
            (king i) (heard i) (stored (candidates_of s b)) (stored (echoes_of s b)) s.since) ∙ ap (λ (u : View). stored_state u s.since) (sym next-is);
        kept = λ q. absurd (true≢false q);
      }

  -- lists that do not fit leave all as it was
  pub value_refused : fits ≡ false → Makes s b false t
  value_refused fit =
      record {
        fits = sym fit ∙ grows.fits ∙ rw (step_kind_value (view s) (received_by s b) kind);
        made = λ q. absurd (true≢false (sym q));
        kept = λ q. grows.kept fit;
      }
