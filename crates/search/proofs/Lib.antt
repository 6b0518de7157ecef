pub mod Usables
pub mod Picks
pub mod Reading
pub mod Pump
pub mod Pruned
