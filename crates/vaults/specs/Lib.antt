pub mod Sites
pub mod Loads
pub mod Fitness
pub mod Tables
