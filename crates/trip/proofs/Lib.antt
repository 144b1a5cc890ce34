pub mod Octets
pub mod Laid
pub mod Turns
pub mod Until
pub mod Round
pub mod Whole
