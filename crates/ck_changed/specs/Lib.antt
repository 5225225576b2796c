pub mod Difference
pub mod Compare
