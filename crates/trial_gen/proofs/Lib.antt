pub mod Words
pub mod Drawn
pub mod Fitting
pub mod Items
mod Worked
