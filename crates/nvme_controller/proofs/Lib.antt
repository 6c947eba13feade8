pub mod Walks
pub mod AsBox
pub mod CountLaws
pub mod LogLaws
pub mod OpenLaws
pub mod TextLaws
pub mod ZeroingLaws
