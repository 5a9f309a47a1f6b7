pub mod Precedence
pub mod Authorisation
