-- The definitions that the contracts of this crate cite, and its promises.
pub mod Cursors
pub mod Promises
