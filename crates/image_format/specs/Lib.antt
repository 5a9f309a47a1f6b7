pub mod Runs
pub mod Images
