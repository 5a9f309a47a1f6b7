pub mod Flags
pub mod Held
