pub mod MapLemmas
pub mod PartLemmas
pub mod ProgressLaws
pub mod StandingLemmas
pub mod ReplyLaws
pub mod MountedLaws
