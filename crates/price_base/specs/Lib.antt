pub mod Cells
pub mod Volumes
