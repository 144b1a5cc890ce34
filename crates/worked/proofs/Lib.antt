pub mod Vectors
pub mod Served
