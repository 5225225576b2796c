pub mod Area
pub mod Damage
pub mod Firsts
pub mod Parts
pub mod Split
pub mod Known
pub mod Pushed
