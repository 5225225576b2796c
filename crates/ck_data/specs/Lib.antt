pub mod Device
pub mod Reads
pub mod Writes
pub mod Stored
pub mod Piece
