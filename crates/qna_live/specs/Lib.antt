pub mod Laws
pub mod Live
pub mod Opened
pub mod Opening
pub mod Serving
pub mod Certified
