pub mod Record
pub mod Edited
