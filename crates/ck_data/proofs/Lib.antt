pub mod ReadLemmas
pub mod PatchLemmas
pub mod StoredLaws
pub mod PlaceLemmas
pub mod PieceLemmas
