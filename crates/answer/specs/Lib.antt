pub mod Identity
pub mod Fit
