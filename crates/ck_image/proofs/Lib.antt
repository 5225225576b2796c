pub mod Later
pub mod Both
pub mod Rounds
pub mod TooLong
pub mod Told
