pub mod Turnstile
pub mod Pass
pub mod Phase
pub mod Rule
pub mod Steps
pub mod Tally
