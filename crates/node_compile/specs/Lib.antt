pub mod Items
pub mod Laws
pub mod Leaf
pub mod Release
pub mod Sent
pub mod Shape
pub mod Sizes
pub mod Table
