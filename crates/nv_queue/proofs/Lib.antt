pub mod Words
pub mod PlaceLaws
pub mod RunLaws
pub mod ZeroLaws
pub mod KeptLaws
pub mod NumberLaws
pub mod SlotLaws
pub mod TagLaws
