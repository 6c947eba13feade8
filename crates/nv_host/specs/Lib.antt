pub mod Bytes
pub mod Pages
pub mod PageSets
pub mod PageWrites
pub mod FlatMemory
