pub mod Transcript
pub mod Served
pub mod Serving
pub mod Answering
pub mod DeskEnd
pub mod Parties
pub mod Laws
pub mod Release
