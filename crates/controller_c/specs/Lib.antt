-- What the crate's contracts cite: the page docs/IMAGE.md in definitions. The laws stand apart, in `Laws`.
pub mod Words
pub mod Image
pub mod Calls
pub mod Laws
