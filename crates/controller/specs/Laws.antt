-- Laws about the definitions, for the proofs of this crate and of the crates above it.
pub mod Calls
pub mod Damage
pub mod Examples
pub mod First
pub mod Lists
pub mod Order
pub mod Received
pub mod Refusals
pub mod Rotation
pub mod Rules
pub mod State
pub mod Thirds
pub mod Trials
-- Laws that tie the words for the code's work to the rules' words.
pub mod Work
