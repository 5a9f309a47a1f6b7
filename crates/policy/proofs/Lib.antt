pub mod VaultBits
pub mod Kept
pub mod Onwards
pub mod Besides
pub mod Counting
pub mod Counts
pub mod Ends
