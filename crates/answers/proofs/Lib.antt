-- Laws about answers and rows of checks.
pub mod Statuses
pub mod Rows
