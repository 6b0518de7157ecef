pub mod Fields
pub mod Signed
pub mod Bits
pub mod Rows
