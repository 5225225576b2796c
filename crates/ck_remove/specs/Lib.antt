pub mod Extents
pub mod Gone
pub mod Removal
pub mod Unseen
pub mod Drained
