pub mod Lists
pub mod Seats
pub mod Turns
pub mod Entries
pub mod Meetings
pub mod Calls
pub mod Gathering
