pub mod CrashLemmas
pub mod PlayedLemmas
pub mod BuiltLemmas
pub mod TopLemmas
pub mod VolumeLemmas
