pub mod Line
pub mod Release
pub mod Certificate
pub mod Journal
pub mod Part
