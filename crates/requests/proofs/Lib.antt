pub mod Spans
pub mod Leads
pub mod Follows
pub mod Fetches
pub mod Serves
pub mod Table
pub mod Where
