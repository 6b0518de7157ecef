pub mod Least
pub mod Potential
pub mod Optimum
pub mod Falling
