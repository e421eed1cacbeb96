-- `controller::sound::is_sound` meets its contract: the parts that it tests, taken together, are `sound`.
use Rattle.std.proofs.Common.{arith, ap, sym, refl, true, get_or, ◌&&◌, ◌∙◌, ◌≡◌, ◌<◌, ℕ, Bool}
use Rattle.wire.specs.Numbers.{listed}
use Rattle.wire.specs.declared.frame.Numbers.{Numbers}
use Rattle.controller.specs.Laws.Lists.{mem_in, rising_place}
use Rattle.controller.specs.Laws.State.{sound_list_gives}
use Rattle.controller.specs.Laws.Work.Lists.{below_inside}
use Rattle.controller.specs.Laws.Work.Sound.{left, sound_parts, lists_sound_heard}
use Rattle.controller.specs.Lists.{mem}
use Rattle.controller.specs.State.{sound_list, sound_beside, sound}
use Rattle.controller.specs.Work.Lists.{below}
use Rattle.controller.specs.Work.Sound.{lists_sound}
use Rattle.controller.specs.declared.state.State.{State}
use Rattle.controller.proofs.sound.is_sound.Goals as goal

-- what is sound, where it is known of two parts whether they are
parts : (s : State) (t u : Bool) → t ≡ lists_sound s → u ≡ mem s.own (listed s.heard) → (t && (u && left s)) ≡ sound s
parts s t u e f = rw (e, f) (sym (sound_parts s))

-- the own number's place in a sound list
module _ (n : Numbers) (own i : ℕ) (sound : sound_list n ≡ true) (heard : true ≡ mem own (listed n)) (place : i ≡ below own (listed n)) where
  inside : i < n.len
  inside = omega (arith, place, below_inside own (listed n) (mem_in (listed n) (sym heard)), (sound_list_gives n sound).used)

  stands : get_or (listed n) i 0 ≡ own
  stands = rw place (rising_place own (listed n) (sound_list_gives n sound).list.rises (mem_in (listed n) (sym heard)))

pub returns-then-not-lists_sound : goal.returns-then-not-lists_sound
returns-then-not-lists_sound c = parts c.args.state.now _ _ c.if-not-lists_sound.ensures refl

pub rounds_sound-requires-clause-few : goal.rounds_sound-requires-clause-few
rounds_sound-requires-clause-few c =
    let s = c.args.state.now in
    let tests = sound_list_gives s.heard (lists_sound_heard s (sym c.if-not-lists_sound.ensures)) in
    omega (arith, tests.used, tests.list.short)

pub rounds_sound-requires-clause-inside : goal.rounds_sound-requires-clause-inside
rounds_sound-requires-clause-inside c =
    let s = c.args.state.now in
    inside s.heard s.own _ (lists_sound_heard s (sym c.if-not-lists_sound.ensures)) c.if-has_at.ensures c.place_in-place.ensures

pub returns-then-has_at : goal.returns-then-has_at
returns-then-has_at c =
    let s = c.args.state.now in
    let heard = lists_sound_heard s (sym c.if-not-lists_sound.ensures) in
    let tests = sound_list_gives s.heard heard in
    let here = stands s.heard s.own _ heard c.if-has_at.ensures c.place_in-place.ensures in
    let rounds : c.rounds_sound.result ≡ sound_beside s.own (listed s.heard) s.since =
    c.rounds_sound.ensures (listed s.heard) tests.used tests.list.rises ∙ ap (λ (x : ℕ). sound_beside x (listed s.heard) s.since) here in
    rw (c.fields_sound.ensures, rounds) (parts s _ _ c.if-not-lists_sound.ensures c.if-has_at.ensures)

pub returns-else-has_at : goal.returns-else-has_at
returns-else-has_at c = c.if-has_at.false ∙ parts c.args.state.now _ _ c.if-not-lists_sound.ensures c.if-has_at.ensures
