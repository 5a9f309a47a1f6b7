pub mod Lines
pub mod Fronts
