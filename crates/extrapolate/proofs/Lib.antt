pub mod Carrying
pub mod Outside
pub mod Stepped
pub mod Worked
