pub mod Bytes
pub mod Clock
pub mod Faults
pub mod Memory
pub mod Sink
pub mod Source
