-- What several proofs of the crate share, and `NoPlace` with those of `controller`.
pub mod NoPlace
pub mod Tests
