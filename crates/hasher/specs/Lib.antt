-- The definitions that the contracts and the theorems of this crate cite.
pub mod Running
pub mod Reading
pub mod Sized
pub mod ForCode
pub mod Pieces
pub mod Apart
pub mod Promises
