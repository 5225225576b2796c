pub mod StripItem
pub mod Stripped
