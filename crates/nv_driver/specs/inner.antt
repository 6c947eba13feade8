-- What no public contract reaches. Contracts of private functions use it, in other crates too.
pub mod Driver
pub mod Exchange
pub mod Linked
pub mod Pace
pub mod Registers
pub mod Submitting
pub mod UnderWay
pub mod BringingUp
pub mod CommandPages
