pub mod Shifted
pub mod EachEnd
pub mod Bridge
pub mod Promised
pub mod Placed
pub mod Entries
pub mod Trees
pub mod Ordering
