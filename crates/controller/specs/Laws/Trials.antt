-- The starred trials hold, by computation.
use Rattle.std.specs.Prelude.{refl}
use Rattle.wire.specs.Frame.{kind_of, said_by, bit_fits, max_count, length_fits, round_fits, head_fits, body_fits, read_refusal, content}
use Rattle.wire.specs.Tray.{round_of, entry_count, sender, well_formed, part, entries}
use Rattle.wire.specs.Trials.{All}
use Rattle.controller.specs.Thirds.{third, two_thirds}
use Rattle.controller.specs.State.{sound_rules, sound_beside, sound}
use Rattle.controller.specs.Received.{frame_of, receive}
use Rattle.controller.specs.Rotation.{roster}
use Rattle.controller.specs.Rules.{step}
use Rattle.controller.specs.Refusals.{tray_refusal}
use Rattle.controller.specs.Trials.{Holds, trials}

-- the rows in a line: a row, and those after it
infixr 20 ◌and◌
◌and◌ : {A B : Type 0} → A → B → A × B
a and b = (a, b)

pub trials_hold : All Holds trials
unfolding kind_of said_by bit_fits max_count length_fits round_fits head_fits body_fits read_refusal content round_of entry_count sender
    well_formed part entries third two_thirds sound_rules sound_beside sound frame_of receive roster step tray_refusal
trials_hold =
    (refl, refl) and (refl, refl) and (refl, refl) and (refl, refl) and (refl, refl) and
    (refl, refl) and (refl, refl) and (refl, refl) and (refl, refl) and (refl, refl) and
    (refl, refl) and (refl, refl) and (refl, refl) and (refl, refl) and (refl, refl) and
    refl and refl and refl and refl and refl and refl and tt
