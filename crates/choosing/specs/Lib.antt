pub mod Suitable
pub mod Calls
pub mod Steps
