pub mod Unique
pub mod Checking
pub mod Stores
