mod Steps
mod Since
mod Drafts
mod Places
