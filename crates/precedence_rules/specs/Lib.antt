pub mod Stronger
