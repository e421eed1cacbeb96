-- Words for the code's work, a file for each file of src/. They are no part of the rules.
pub mod Bit
pub mod Calls
pub mod First
pub mod Heads
pub mod Lists
pub mod OpenList
pub mod Opened
pub mod Own
pub mod Received
pub mod Sound
pub mod Step
pub mod Tally
