pub mod Names
pub mod Added
pub mod Gone
pub mod Flags
