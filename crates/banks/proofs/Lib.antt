mod Listed
mod Turns
