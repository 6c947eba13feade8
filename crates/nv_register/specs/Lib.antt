pub mod Register
pub mod Dwords
pub mod PageSize
pub mod Readiness
pub mod RegisterBank
