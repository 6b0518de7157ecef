pub mod Accepting
pub mod Metered
