-- Laws about the definitions, for the proofs of this crate and of the crates above it.
pub mod Bits
pub mod Causes
pub mod Damage
pub mod Found
pub mod Frame
pub mod Heads
pub mod Laid
pub mod Notes
pub mod Numbers
pub mod Stores
pub mod Tray
pub mod Words
