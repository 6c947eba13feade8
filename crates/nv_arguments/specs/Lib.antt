pub mod ArgumentOption
pub mod ClapRule
pub mod FaultText
pub mod Arguments
