pub mod Settling
pub mod Bounds
pub mod States
pub mod Works
pub mod Others
pub mod Beginnings
pub mod Rounds
