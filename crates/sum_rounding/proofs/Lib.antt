pub mod Steps
pub mod Sizes
pub mod Ranks
pub mod Laws
mod Rows
