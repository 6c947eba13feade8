pub mod CallLaws
pub mod TagLaws
pub mod TurnLaws
