pub mod Lengths
pub mod Service
pub mod RoundTrip
pub mod Edited
