-- What several proofs of the crate share.
pub mod Directory
pub mod Heard
pub mod NextEntry
pub mod Noted
pub mod Promises
pub mod Tallied
