pub mod Removable
pub mod Room
