pub mod Parts
pub mod Lines
pub mod Spelling
pub mod Journals
