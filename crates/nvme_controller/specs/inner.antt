-- What no public contract reaches.
pub mod FaultText
pub mod Zeroing
