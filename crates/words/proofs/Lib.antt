pub mod Laws
pub mod Saved
