pub mod Workspace
pub mod Heads
