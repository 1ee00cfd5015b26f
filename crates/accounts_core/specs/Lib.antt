pub mod State
pub mod Step
pub mod Run
pub mod Kept
pub mod Sound
pub mod Finishing
