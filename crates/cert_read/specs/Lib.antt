pub mod Statement
pub mod Content
pub mod Reading
pub mod Cutting
pub mod Progress
pub mod Found
