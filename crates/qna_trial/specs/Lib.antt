pub mod Trial
pub mod TrialEnd
