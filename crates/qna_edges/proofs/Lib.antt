pub mod Device
pub mod Stock
pub mod Paper
