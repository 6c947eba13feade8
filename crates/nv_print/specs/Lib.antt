pub mod Field
pub mod Shown
pub mod Message
pub mod Devices
pub mod Records
pub mod Text
pub mod inner
