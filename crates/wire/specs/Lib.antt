-- What the crate's contracts cite. Each file opens with the section of document 01 or 02 that it renders; the laws stand apart, below `Laws`.
pub mod Limits
pub mod Words
pub mod Numbers
pub mod Refusal
pub mod Frame
pub mod Texts
pub mod Tray
pub mod Found
pub mod Notes
pub mod Heads
pub mod Laid
pub mod Trials
pub mod Laws
