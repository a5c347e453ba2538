-- The definitions that the contracts of this crate cite.
pub mod Entries
pub mod Steps
pub mod Digests
pub mod Cuts
pub mod KnownValues
pub mod Promises
