pub mod Written
pub mod Right
pub mod Parsed
pub mod SeenKey
pub mod Seen
pub mod ByKey
pub mod Texts
pub mod Laws
