pub mod BatchWords
pub mod Command
pub mod LiveWords
pub mod TrialWords
pub mod Views
pub mod Words
