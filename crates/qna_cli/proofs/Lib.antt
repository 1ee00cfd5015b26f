pub mod Batches
pub mod Branches
pub mod CheckEnds
pub mod Journal
pub mod Wanting
