pub mod Fit
pub mod Outcome
pub mod Turn
