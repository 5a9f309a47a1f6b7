pub mod Vertices
pub mod Reaching
pub mod Concerns
pub mod Closures
