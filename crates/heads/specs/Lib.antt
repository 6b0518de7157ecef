pub mod Signed
pub mod Heads
pub mod Steps
pub mod Walk
