pub mod Children
pub mod Counts
pub mod Marks
pub mod Named
