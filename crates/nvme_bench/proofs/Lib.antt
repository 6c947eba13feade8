pub mod ListLaws
pub mod TransferLaws
pub mod DeviceLaws
pub mod SendingLaws
