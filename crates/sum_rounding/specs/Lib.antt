pub mod ShareOut
