-- What the crate's contracts cite. Each file opens with the section of document 01 or 02 that it renders; the laws stand apart, below `Laws`.
pub mod Lists
pub mod Thirds
pub mod State
pub mod Received
pub mod First
pub mod Rotation
pub mod Bit
pub mod Rules
pub mod Refusals
pub mod Calls
pub mod Bytes
pub mod Texts
pub mod Trials
pub mod Examples
pub mod Laws
-- Words for the code's work, which contracts of inner functions cite.
pub mod Work
