pub mod HeaderBounds
pub mod Elevation
pub mod SectionBounds
pub mod Kept
pub mod Ends
pub mod House
pub mod Same
