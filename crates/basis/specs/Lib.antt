pub mod Range
pub mod Slots
pub mod Part
pub mod Stored
pub mod Round
pub mod Sections
