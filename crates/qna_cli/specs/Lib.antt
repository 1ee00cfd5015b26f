pub mod Batch
pub mod Check
pub mod CheckEnd
pub mod Forms
