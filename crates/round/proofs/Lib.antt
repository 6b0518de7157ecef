pub mod Piecewise
