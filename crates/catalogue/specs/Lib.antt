pub mod Layout
pub mod Rules
pub mod Reading
pub mod Steps
