pub mod Images
pub mod Texts
pub mod Top
