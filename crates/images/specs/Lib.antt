pub mod Reading
pub mod Writing
pub mod Faults
pub mod Texts
