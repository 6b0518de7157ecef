pub mod Meters
pub mod Steps
