pub mod Serve
pub mod Steps
pub mod Guest
pub mod Table
pub mod Where
