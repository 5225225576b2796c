pub mod Play
pub mod Refusals
pub mod Statuses
pub mod Crash
pub mod Top
pub mod Ends
