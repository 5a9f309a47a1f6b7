pub mod Declared
mod Named
mod Orders
