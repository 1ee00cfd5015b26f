pub mod Years
pub mod Chain
pub mod Quarters
pub mod Drift
pub mod Table
pub mod Sizes
