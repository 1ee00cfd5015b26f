pub mod Events
pub mod Seen
pub mod Holding
pub mod FirstPasses
pub mod Gathering
