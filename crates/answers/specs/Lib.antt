-- The definitions that the contracts of all crates cite for what a call answers.
pub mod Refusals
pub mod Checks
pub mod Outputs
pub mod Lines
pub mod Promises
