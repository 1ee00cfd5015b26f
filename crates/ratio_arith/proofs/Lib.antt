pub mod Clamps
pub mod Floors
pub mod Linear
pub mod Near
pub mod Order
pub mod Products
pub mod Ring
