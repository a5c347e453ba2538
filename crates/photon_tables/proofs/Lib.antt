-- Laws that the proofs of the crate's functions share, and those of columns in words.
pub mod EntryTests
pub mod WordCells
pub mod ColumnSums
pub mod LookUps
pub mod PairSums
