-- What the contracts of this crate cite beyond the standard.
pub mod Parameters
pub mod Pairs
pub mod Words
