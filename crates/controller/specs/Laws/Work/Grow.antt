-- Laws of what the tally makes: the lists that the walk has made hold the numbers that the rules echo and make candidates, and where there are too many for
-- them, so there are by the rules.
use Rattle.std.specs.Prelude.{ℕ, ◌<◌, true, false, ◌&&◌, List, ◌≡◌, refl, leb, length, Some, None}
use Rattle.std.proofs.Common.{true≢false, inl, inr, sym, ap, ◌∙◌, arith, le-leb}
use Rattle.std.proofs.lemmas.Bool.{lt-leb}
use Rattle.std.proofs.Math.Bool.{and-false}
use Rattle.wire.specs.Limits.{max_numbers}
use Rattle.wire.specs.Numbers.{stored, listed}
use Rattle.wire.specs.Tray.{entries}
use Rattle.wire.specs.declared.frame.Numbers.{Numbers}
use Rattle.controller.specs.Lists.{In, Rising}
use Rattle.controller.specs.Received.{ReceivedLists, lists}
use Rattle.controller.specs.Rotation.{tally, echoed, candidates_after}
use Rattle.controller.specs.State.{Rotor, view, sound_rules}
use Rattle.controller.specs.Work.Received.{received_by}
use Rattle.controller.specs.Work.Tally.{GrowsLists, HasJust, Crowd, TooMany, Tallies}
use Rattle.controller.specs.Laws.Lists.{inside_length, rising_no_repeats, rising_same}
use Rattle.controller.specs.Laws.Received.{heard_some}
use Rattle.controller.specs.Laws.Rotation.{echoed_in, echoed_rising, candidates_in_lem, candidates_rising}
use Rattle.controller.specs.Laws.State.{rules_give, sound_list_gives}
use Rattle.controller.specs.declared.state.State.{State}
use Rattle.controller.specs.declared.tally.Settled.{Settled}

-- a stored list that holds just the numbers of a rising list is its stored form
holds_stored : {P : ℕ → Type 0} (n : Numbers) (l : List ℕ) → HasJust P n → Rising l → ((y : ℕ) → P y → In y l) → ((y : ℕ) → In y l → P y) → n ≡ stored l
holds_stored n l g up there back =
    let tests = sound_list_gives n g.sound in
    sym tests.back
    ∙ ap stored (rising_same (listed n) l tests.list.rises up (λ y i. there y ((g.has y).0 i)) (λ y i. (g.has y).1 (back y i)))

-- more than 64 numbers of a list are too many
crowd_many : {P : ℕ → Type 0} (l : List ℕ) → Crowd P → ((y : ℕ) → P y → In y l) → leb (length l) max_numbers ≡ false
crowd_many l (m, up, many, all) there =
    lt-leb (length l) max_numbers (omega (arith, inside_length m {m = l} (rising_no_repeats m up) (λ y i. there y (all y i))))

module _ (c : Rotor) (l : ReceivedLists) (some : 0 < length l.heard) where
  too_many : TooMany (tally l) (length l.heard) c.candidates
      → (leb (length (candidates_after c l)) max_numbers && leb (length (echoed c l)) max_numbers) ≡ false
  too_many (inl crowd) =
      rw (crowd_many (echoed c l) crowd (λ y p. (echoed_in c l some).1 p)) (and-false (leb (length (candidates_after c l)) max_numbers))
  too_many (inr crowd) = rw (crowd_many (candidates_after c l) crowd (λ y p. (candidates_in_lem c l some).1 p))

-- the state as it stands then
module _ (s : State) (b : List ℕ) (test : sound_rules s ≡ true) where
  abbrev c : Rotor
  c = (view s).rotor

  abbrev l : ReceivedLists
  l = lists (received_by s b)

  somebody : 0 < length l.heard
  somebody = heard_some (view s) (entries b) (rules_give s test)

  pub sorted_grows : (r : Settled) → Tallies s b (Some tt) r → GrowsLists s b true (record s { echoes = r.echoed; candidates = r.candidates })
  sorted_grows r sorts =
      let h = rules_give s test in
      let echoes : r.echoed ≡ stored (echoed c l) =
      holds_stored r.echoed (echoed c l) sorts.0 (echoed_rising c l) (λ y p. (echoed_in c l somebody).1 p) (λ y i. (echoed_in c l somebody).0 i) in
      let candidates : r.candidates ≡ stored (candidates_after c l) =
      holds_stored r.candidates (candidates_after c l) sorts.1 (candidates_rising c l h.candidates.rises)
      (λ y p. (candidates_in_lem c l somebody).1 p) (λ y i. (candidates_in_lem c l somebody).0 i) in
      let echoes-few = sound_list_gives r.echoed sorts.0.sound in
      let candidates-few = sound_list_gives r.candidates sorts.1.sound in
      let one : leb (length (candidates_after c l)) max_numbers ≡ true =
      le-leb (length (candidates_after c l)) max_numbers
      (omega (arith, ap (λ (q : Numbers). q.len) candidates, candidates-few.used, candidates-few.list.short)) in
      let two : leb (length (echoed c l)) max_numbers ≡ true =
      le-leb (length (echoed c l)) max_numbers (omega (arith, ap (λ (q : Numbers). q.len) echoes, echoes-few.used, echoes-few.list.short)) in
      record { fits = rw (one, two); grown = λ t. rw (echoes, candidates); kept = λ t. absurd (true≢false t) }

  pub crowded_keeps : (r : Settled) → Tallies s b None r → GrowsLists s b false s
  crowded_keeps r crowd = record { fits = sym (too_many c l somebody crowd); grown = λ t. absurd (true≢false (sym t)); kept = λ t. refl }
