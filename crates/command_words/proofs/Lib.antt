pub mod Callers
pub mod Desks
pub mod Digits
pub mod Forms
pub mod Plain
pub mod TextWalk
pub mod Trials
