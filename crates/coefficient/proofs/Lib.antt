pub mod Rising
pub mod Along
pub mod Coefficient
pub mod Worked
pub mod Pairs
pub mod Reading
