pub mod Questions
pub mod Faults
pub mod Texts
