pub mod ReadingLaws
pub mod ServingLaws
pub mod ServedLaws
