pub mod Asked
pub mod Stops
pub mod StopText
