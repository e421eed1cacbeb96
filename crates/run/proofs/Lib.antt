-- The proof of what is claimed of a run, and runs that are there.
pub mod Argument
pub mod Inhabitants
