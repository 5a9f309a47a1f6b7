pub mod Paths
pub mod Searches
