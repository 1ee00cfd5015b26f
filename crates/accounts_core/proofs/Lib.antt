pub mod Untouched
pub mod Lists
pub mod Accepting
pub mod Rounds
pub mod Beginning
pub mod Handling
pub mod Publishing
pub mod Soundness
pub mod Reaching
pub mod Costs
pub mod Running
pub mod Ending
mod Worked
