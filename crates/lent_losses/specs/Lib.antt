pub mod LentLosses
pub mod Calls
