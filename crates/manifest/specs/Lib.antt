-- The definitions that the contracts and the theorems of this crate cite.
pub mod Lists
pub mod Records
pub mod Installations
pub mod Tables
pub mod Counts
pub mod Lookups
pub mod Progress
pub mod Strides
pub mod Promises
