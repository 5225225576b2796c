pub mod MomentLaws
pub mod Steps
pub mod TornWrites
pub mod LostWrites
pub mod RunLaws
