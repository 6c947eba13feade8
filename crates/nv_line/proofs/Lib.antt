pub mod ClapRules
pub mod DigitLemmas
pub mod FaultOrder
pub mod Pieces
pub mod Strip
pub mod ListReading
