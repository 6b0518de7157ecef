pub mod Losses
pub mod Steps
