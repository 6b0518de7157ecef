pub mod Table
pub mod Alpha
pub mod Reached
