pub mod Block
pub mod Progress
pub mod ReadTurn
pub mod StartFault
pub mod Mounted
