pub mod Demand1
mod Flows
mod Heads
mod Lowest
mod Ratings
pub mod Demand2
pub mod Demand3
pub mod Metering
pub mod OneTap
pub mod InTurn
mod Versions
mod Counterpart
pub mod HotAndCold
pub mod Worked
mod Lower
mod OneSection
mod Basin
pub mod SmallFlows
