pub mod Heat
pub mod Calls
