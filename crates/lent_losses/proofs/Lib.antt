pub mod Listed
pub mod Ordering
pub mod Placed
pub mod Chunks
