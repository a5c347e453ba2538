-- The definitions that the contracts of this crate cite, and those of numbers and text in bytes that all crates share.
pub mod Numbers
pub mod Slices
pub mod Text
pub mod Nibbles
pub mod Cells
pub mod Promises
