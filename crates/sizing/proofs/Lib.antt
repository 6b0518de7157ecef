pub mod LossBounds
pub mod Trying
pub mod Named
