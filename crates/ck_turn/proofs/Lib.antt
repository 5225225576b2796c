pub mod Lists
pub mod Phases
pub mod Views
pub mod Turns
pub mod Rests
pub mod Passes
