pub mod Distinct
pub mod Entries
pub mod Gathering
pub mod Kept
pub mod Outcomes
pub mod Parents
pub mod Waiting
pub mod Leaves
mod Worked
pub mod Names
pub mod Places
pub mod Rows
