mod Turns
pub mod Flagged
