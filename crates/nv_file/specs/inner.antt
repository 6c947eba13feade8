-- Definitions that only contracts of private functions use.
pub mod FirstChecks
pub mod IsFile
pub mod Reading
pub mod SectionView
pub mod TopView
