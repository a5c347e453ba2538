-- The definitions that the contracts of this crate cite.
pub mod Leading
pub mod Difference
pub mod Recovering
pub mod Promises
