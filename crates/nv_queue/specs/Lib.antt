pub mod Numbers
pub mod Rings
pub mod Slots
pub mod Runs
pub mod inner
