pub mod Ordering
pub mod Covering
pub mod Authorisation
