pub mod Needless
pub mod Kept
pub mod Named
pub mod Changes
pub mod Order
pub mod Fits
