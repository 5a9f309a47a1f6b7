pub mod Highest
pub mod Numbers
pub mod Texts
