-- The laws of the running hash, and the theorems on it: Keeps, UpdateAppend, ByteByByte, Demand2, Bits, Apart, OneMoreBlock.
pub mod Owned
pub mod WellFormed
pub mod Next
pub mod Calls
pub mod Message
pub mod TakenBlocks
pub mod PartPieces
pub mod WholeRuns
pub mod Keeps
pub mod UpdateAppend
pub mod ByteByByte
pub mod Demand2
pub mod Bits
pub mod Apart
pub mod OneMoreBlock
