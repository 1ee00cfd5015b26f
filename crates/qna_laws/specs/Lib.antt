pub mod Certificates
pub mod Journals
pub mod Releases
