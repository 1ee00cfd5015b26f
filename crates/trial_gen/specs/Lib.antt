pub mod TrialPlan
pub mod TrialInputs
