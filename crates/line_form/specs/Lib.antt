pub mod Lines
pub mod Fields
pub mod Commas
pub mod Held
pub mod Name
pub mod Number
