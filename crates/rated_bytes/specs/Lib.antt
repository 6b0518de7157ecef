pub mod Figures
pub mod RatedBytes
