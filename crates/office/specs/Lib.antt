pub mod Unique
pub mod Seen
pub mod Holds
pub mod Calls
pub mod Opening
pub mod Gathered
