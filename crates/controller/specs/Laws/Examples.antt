-- The two worked examples come out as document 01 says, by computation.
use Rattle.std.specs.Prelude.{refl}
use Rattle.wire.specs.Frame.{kind_of, chosen_by, said_by, bit_fits, max_count, length_fits, round_fits, head_fits, body_fits, read_refusal, content}
use Rattle.wire.specs.Frame.{frame_bytes}
use Rattle.wire.specs.Tray.{round_of, entry_count, sender, well_formed, part, entries}
use Rattle.controller.specs.Thirds.{third, two_thirds}
use Rattle.controller.specs.State.{sound_rules, sound_beside, sound}
use Rattle.controller.specs.Received.{frame_of, stand_in, receive}
use Rattle.controller.specs.First.{firsts_after}
use Rattle.controller.specs.Rotation.{roster, tally, mentioned, echoed, joined, candidates_after, decides, king_after}
use Rattle.controller.specs.Bit.{bit_taken, decision_after, value_said, value_two_thirds, proposal_third, proposal_two_thirds, proposal, bit_adopted}
use Rattle.controller.specs.Bit.{strong_after, opinion}
use Rattle.controller.specs.Rules.{step}
use Rattle.controller.specs.Refusals.{start_refusal, tray_refusal}
use Rattle.controller.specs.Examples.{Session, LateJoiner}

pub session_printed : Session
unfolding kind_of chosen_by said_by bit_fits max_count round_fits round_of entry_count well_formed entries third two_thirds sound_rules sound_beside sound
    frame_of stand_in receive firsts_after roster tally mentioned echoed joined candidates_after decides king_after bit_taken decision_after value_said
    value_two_thirds proposal_third proposal_two_thirds proposal bit_adopted strong_after opinion step start_refusal tray_refusal
session_printed = record { start_accepted = refl; trays_accepted = refl; printed = refl }

-- 5 has a bit of its own, and takes that of the other two
pub late_joiner : LateJoiner 0 1 1 × LateJoiner 1 0 0
unfolding kind_of chosen_by said_by bit_fits max_count length_fits round_fits head_fits body_fits read_refusal content frame_bytes round_of entry_count
    sender well_formed part entries third two_thirds sound_rules sound_beside sound frame_of stand_in receive firsts_after roster tally mentioned echoed joined
    candidates_after decides king_after bit_taken decision_after value_said value_two_thirds proposal_third proposal_two_thirds proposal bit_adopted
    strong_after opinion step tray_refusal
late_joiner = (
  record { accepted = refl; phase_0 = refl; phase_1_candidates = refl; phase_1 = refl; decided = refl; last_round_lem = refl; first_heard = refl },
  record { accepted = refl; phase_0 = refl; phase_1_candidates = refl; phase_1 = refl; decided = refl; last_round_lem = refl; first_heard = refl },
)
