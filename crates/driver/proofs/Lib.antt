pub mod Laws
pub mod Formed
pub mod Free
pub mod Fits
pub mod Answers
pub mod Again
