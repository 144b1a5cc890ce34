pub mod Stands
pub mod Answered
pub mod Trip
