pub mod Map
pub mod Directory
pub mod Faults
pub mod Deletions
pub mod Sizes
pub mod Writes
pub mod Plan
