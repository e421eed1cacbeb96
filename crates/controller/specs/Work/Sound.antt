-- Words for sound.rt: soundness in the order in which it is tested. They are no part of the rules: the laws tie them to the rules' words.
--     empty_sound s        candidates have no used place in rounds 1 and 2, echoes have none in round 1
--     bits_sound s         the bit, strong and the decision are in range
--     fields_sound s       what soundness asks of all but the own number and the lists' numbers
--     lists_sound s        the three lists of s are in their stored form
use Rattle.std.specs.Prelude.{Bool, ◌&&◌, ◌||◌, leb, ltb, eqb}
use Rattle.wire.specs.Frame.{round_fits}
use Rattle.controller.specs.State.{view, sound_list, sound_said}
use Rattle.controller.specs.declared.state.State.{State}

abbrev pub empty_sound : State → Bool
empty_sound s = (ltb 2 s.round || eqb s.candidates.len 0) && (ltb 1 s.round || eqb s.echoes.len 0)

abbrev pub bits_sound : State → Bool
bits_sound s = leb s.bit 1 && leb s.strong 1 && leb s.decision 2

abbrev pub fields_sound : State → Bool
fields_sound s = round_fits s.round && sound_said (view s) && empty_sound s && bits_sound s

abbrev pub lists_sound : State → Bool
lists_sound s = sound_list s.heard && sound_list s.candidates && sound_list s.echoes
