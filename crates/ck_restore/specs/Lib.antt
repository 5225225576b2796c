pub mod Entries
pub mod Freed
pub mod Older
pub mod Promoted
pub mod Restored
