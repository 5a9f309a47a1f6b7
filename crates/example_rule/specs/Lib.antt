pub mod Granting
pub mod GrantingLawful
