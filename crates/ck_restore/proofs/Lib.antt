mod EntriesLemmas
mod NewestLemmas
mod TidiedLemmas
mod FreedLemmas
mod UnlinkedLemmas
mod PromotedLemmas
mod RestoredLemmas
pub mod WorldLaws
