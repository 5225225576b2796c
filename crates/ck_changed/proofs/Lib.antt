pub mod DifferenceLemmas
pub mod Fits
pub mod Kept
pub mod CompareLemmas
pub mod Backups
