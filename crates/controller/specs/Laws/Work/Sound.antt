-- Laws of soundness as sound.rt tests it: its parts, taken together, are the rules' `sound`.
use Rattle.std.specs.Prelude.{ℕ, Bool, true, false, not, cond, ◌&&◌, ◌||◌, ◌≡◌, refl, leb, ltb, eqb}
use Rattle.std.proofs.Math.Bool.{and-eq-true_iff, and-true, and-false}
use Rattle.std.proofs.Common.{◌∙◌, leb-true, leb-false, lt-ltb, le-ltb}
use Rattle.wire.specs.Frame.{round_fits}
use Rattle.wire.specs.Numbers.{listed}
use Rattle.controller.specs.Laws.State.{sound_list_gives}
use Rattle.controller.specs.Lists.{mem}
use Rattle.controller.specs.State.{view, sound_list, sound_said, sound_empty, sound_beside, sound_rules, sound}
use Rattle.controller.specs.Work.Sound.{empty_sound, bits_sound, fields_sound, lists_sound}
use Rattle.controller.specs.declared.state.State.{State}

-- "b where a holds" is "not a, or b"
pub when_or : (a b : Bool) → (not a || b) ≡ cond a b true
when_or true b = refl
when_or false b = refl

-- and "b up to round m" is "after m, or b"
until_or : (t m : ℕ) (b : Bool) → (ltb m t || b) ≡ cond (leb t m) b true
until_or t m b = go (leb t m) refl
  where
    go : (a : Bool) → leb t m ≡ a → (ltb m t || b) ≡ cond a b true
    go true e = rw (le-ltb m t (leb-true t m e))
    go false e = rw (lt-ltb m t (leb-false t m e))

-- b is looked at only where a holds
where_both : (a b c : Bool) → (a ≡ true → b ≡ c) → (a && b) ≡ (a && c)
where_both true b c h = h refl
where_both false b c h = refl

-- the lists first, then the own number's place
reorder : (round numbered heard lists said empty bits rounds : Bool)
    → (round && (numbered && heard) && lists && said && empty && bits && rounds)
    ≡ (lists && (heard && (round && said && empty && bits && numbered && rounds)))
reorder true true true true said empty bits rounds = rw and-true
reorder true true true false said empty bits rounds = refl
reorder true true false lists said empty bits rounds = rw and-false
reorder true false heard lists said empty bits rounds = rw (and-false, and-false, and-false)
reorder false numbered heard lists said empty bits rounds = rw (and-false, and-false)

pub lists_sound_heard : (s : State) → lists_sound s ≡ true → sound_list s.heard ≡ true
lists_sound_heard s h =
    let both = (and-eq-true_iff _ (sound_list s.echoes)).0 h in
    ((and-eq-true_iff (sound_list s.heard) (sound_list s.candidates)).0 both.0).0

module _ (s : State) where
  -- what is tested where the own number is heard
  abbrev pub left : Bool
  left = fields_sound s && not (eqb s.own 0) && sound_beside s.own (listed s.heard) s.since

  -- a sound list is empty exactly if it has no used place
  empty_sound_lem : lists_sound s ≡ true → sound_empty (view s) ≡ empty_sound s
  empty_sound_lem t =
      let both = (and-eq-true_iff _ (sound_list s.echoes)).0 t in
      let joined = (sound_list_gives s.candidates ((and-eq-true_iff (sound_list s.heard) _).0 both.0).1).used in
      let echoed = (sound_list_gives s.echoes both.1).used in
      rw (joined, echoed, until_or s.round 2, until_or s.round 1)

  pub sound_parts : sound s ≡ (lists_sound s && (mem s.own (listed s.heard) && left))
  unfolding sound_rules sound
  sound_parts =
      reorder (round_fits s.round) (not (eqb s.own 0)) (mem s.own (listed s.heard)) (lists_sound s)
      (sound_said (view s)) (sound_empty (view s)) (bits_sound s) (sound_beside s.own (listed s.heard) s.since)
      ∙ where_both (lists_sound s) _ _ (λ t. rw (empty_sound_lem t))
