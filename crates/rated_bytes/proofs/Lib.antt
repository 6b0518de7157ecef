pub mod Written
pub mod Same
pub mod Figures
