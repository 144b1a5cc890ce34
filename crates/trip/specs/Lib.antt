pub mod Until
pub mod Exchange
pub mod Round
pub mod Honest
