pub mod FeatureTableLaws
pub mod IdentifyLaws
pub mod LogLaws
pub mod NsListLaws
pub mod PartLaws
pub mod RecordLaws
pub mod TableLaws
