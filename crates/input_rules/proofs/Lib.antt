pub mod AcceptedInputs
pub mod Fitting
pub mod MoreLines
