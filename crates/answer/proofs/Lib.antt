pub mod First
pub mod Buffers
pub mod Some
