pub mod CipherTableLaws
pub mod RoundLaws
pub mod WordLaws
pub mod Undone
