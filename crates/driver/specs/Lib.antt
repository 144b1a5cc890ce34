pub mod Lay
pub mod Fit
pub mod Take
