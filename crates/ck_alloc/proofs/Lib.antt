pub mod BitLemmas
pub mod Counts
pub mod MarkLemmas
pub mod IndexLemmas
pub mod MemberLemmas
pub mod AllocationLemmas
pub mod BlockLaws
