pub mod Combining
pub mod Adding
pub mod Counts
pub mod Places
pub mod Kept
pub mod Sizes
