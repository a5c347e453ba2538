-- The facts that the proofs of the functions share: layers, counters, places of bits, rounds in turn, images; and for
-- the state in words: shifts, look-ups, lanes, tables, rounds, the block step.
pub mod Layers
pub mod ParametersOf
pub mod CountersOf
pub mod Carried
pub mod Places
pub mod Shifts
pub mod WordLaws
pub mod WordStates
pub mod LanePlaces
pub mod LookUpRound
pub mod TableLaws
