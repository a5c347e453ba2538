-- Laws that the proofs of the crate's functions share.
pub mod ParametersOf
pub mod Lanes
pub mod BitSums
pub mod StepRows
pub mod StepsOf
pub mod RoundsOf
pub mod WordPlaces
pub mod WordRounds
pub mod PairTables
pub mod CellsIntoWords
pub mod MatrixImage
pub mod MatrixStates
pub mod ImageRows
pub mod CellWidths
pub mod WordSteps
