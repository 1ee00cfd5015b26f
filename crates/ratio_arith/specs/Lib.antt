pub mod Division
pub mod Nearness
