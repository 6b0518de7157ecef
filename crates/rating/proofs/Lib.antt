pub mod Ordering
pub mod Upto
pub mod Rated
pub mod Listed
