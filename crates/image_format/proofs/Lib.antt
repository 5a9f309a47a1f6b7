pub mod Climbs
pub mod Fits
pub mod Rounds
