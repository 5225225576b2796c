pub mod PickLaws
pub mod GivenLaws
