pub mod Privileges
pub mod Declaring
pub mod Faults
pub mod Texts
