pub mod Drift
pub mod Laws
pub mod Points
pub mod Products
mod Rows
pub mod Shares
pub mod YearSums
