pub mod Shape
pub mod Decided
pub mod RoundTrip
pub mod Edited
pub mod Held
pub mod Written
