-- The definitions that the contracts of this crate cite, beside those of the standard.
pub mod Columns
pub mod Tables
