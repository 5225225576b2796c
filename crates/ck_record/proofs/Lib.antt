pub mod SpelledLemmas
pub mod FieldLemmas
pub mod RecordLaws
pub mod LengthLaws
