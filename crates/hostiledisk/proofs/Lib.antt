pub mod Laws
pub mod Phases
