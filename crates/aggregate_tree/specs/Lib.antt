pub mod Leaves
pub mod Tallies
pub mod Sum
pub mod Small
