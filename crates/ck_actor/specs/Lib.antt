pub mod Counts
pub mod Turns
pub mod Walk
pub mod Place
pub mod Completed
pub mod Actor
pub mod Turned
pub mod Played
