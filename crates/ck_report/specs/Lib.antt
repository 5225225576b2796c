pub mod Words
pub mod Transcript
pub mod Status
pub mod Places
pub mod List
pub mod Printed
