-- What several proofs of the crate share.
pub mod Stores
