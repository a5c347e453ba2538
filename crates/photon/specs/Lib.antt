-- The definitions that the contracts of this crate cite, beside those of the standard.
pub mod Parameters
pub mod Rows
pub mod Words
