-- The definitions that the contracts of this crate cite.
pub mod Families
pub mod Holding
pub mod Blocks
pub mod Messages
pub mod MessageBytes
pub mod Padding
pub mod Splits
pub mod TakenBack
pub mod Images
pub mod Words
pub mod Outcomes
pub mod Promises
