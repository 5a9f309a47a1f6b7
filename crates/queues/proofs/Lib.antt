pub mod Rings
pub mod Cycles
mod Strips
