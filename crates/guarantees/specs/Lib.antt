pub mod History
pub mod Good
pub mod Accounts
pub mod Contracted
pub mod Follow
