pub mod MergedLaws
pub mod ByKey
