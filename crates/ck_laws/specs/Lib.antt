pub mod Tree
pub mod Laws
pub mod Ordinary
pub mod Fits
