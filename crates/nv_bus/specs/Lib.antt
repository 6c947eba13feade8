pub mod Bus
pub mod Call
pub mod Entry
pub mod Shown
pub mod Turn
