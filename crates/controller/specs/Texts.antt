-- The refusals in words, for who prints them. Document 01 has their numbers alone.
--     refusal_text e     why a call is refused
use Rattle.std.specs.Prelude.{ℕ, List, codes}
use Rattle.controller.specs.declared.state.Refusal.{Refusal}
use Rattle.controller.specs.declared.state.Refusal.TheVariants.{Unsound, Finished, NoRoom, BadlyPacked, OtherRound, BadSender, TooManyHeard}
use Rattle.controller.specs.declared.state.Refusal.TheVariants.{TooManyListed, BadStart}

abbrev pub refusal_text : Refusal → List ℕ
refusal_text Unsound = codes "the state is not sound"
refusal_text Finished = codes "nothing more is worked"
refusal_text NoRoom = codes "no room for a frame"
refusal_text BadlyPacked = codes "the tray is not well packed"
refusal_text OtherRound = codes "the tray is of another round"
refusal_text BadSender = codes "a sender is 0 or the own number"
refusal_text TooManyHeard = codes "more than 64 would be heard"
refusal_text TooManyListed = codes "more than 64 would be listed"
refusal_text BadStart = codes "number 0, or no bit"
