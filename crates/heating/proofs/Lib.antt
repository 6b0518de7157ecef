pub mod Ordering
pub mod HeatBounds
