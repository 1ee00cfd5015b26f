pub mod Document
pub mod Laws
pub mod Parts
pub mod Sums
pub mod Verdict
