-- The definitions that the contracts of this crate cite, beside those of the standard.
pub mod Cipher
pub mod CipherTables
pub mod Words
pub mod Promises
