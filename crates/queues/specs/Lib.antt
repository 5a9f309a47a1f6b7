pub mod Memories
pub mod Cycles
pub mod Lengths
pub mod Queues
pub mod Frames
pub mod Lying
