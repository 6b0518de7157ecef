pub mod Demand
pub mod Steps
