pub mod Judgement
pub mod Requests
pub mod Views
pub mod Lines
pub mod Accepted
