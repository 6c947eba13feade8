pub mod Lines
pub mod Marked
pub mod Said
