pub mod Answering
pub mod Faults
pub mod Texts
