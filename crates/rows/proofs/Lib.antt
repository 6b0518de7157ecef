pub mod Bests
pub mod Fillings
