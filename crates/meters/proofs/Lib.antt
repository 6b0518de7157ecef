pub mod Bounds
pub mod Qualifying
pub mod Least
pub mod Chunks
