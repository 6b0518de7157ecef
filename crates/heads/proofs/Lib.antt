pub mod Signed
pub mod Loss
pub mod Maximum
pub mod Best
pub mod Same
pub mod Bounds
pub mod Walked
