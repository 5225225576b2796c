pub mod Layout
pub mod Header
pub mod Images
pub mod FirstTable
pub mod Group
pub mod Faults
