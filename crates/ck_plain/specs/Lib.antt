pub mod Plain
pub mod Named
pub mod Room
pub mod Outcome
pub mod Blocks
pub mod Changed
pub mod Ranges
pub mod Answered
