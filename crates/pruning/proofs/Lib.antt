pub mod Keeping
pub mod Trims
pub mod Rows
pub mod Pruning
