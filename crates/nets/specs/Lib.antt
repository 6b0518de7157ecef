pub mod Net
pub mod Tables
pub mod NetIn
