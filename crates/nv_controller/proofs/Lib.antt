pub mod Words
pub mod EntryLaws
pub mod TurnLaws
pub mod DataLaws
pub mod BusLaws
