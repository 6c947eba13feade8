pub mod BytesLaws
pub mod PageLaws
