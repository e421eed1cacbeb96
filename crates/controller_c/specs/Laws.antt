-- Laws about the definitions.
pub mod Words
pub mod Image
pub mod Calls
pub mod Changed
