pub mod Conditions
pub mod Series
pub mod Settling
pub mod Sweeps
