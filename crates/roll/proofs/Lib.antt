pub mod Deciding
pub mod Unique
pub mod Records
pub mod Climbing
pub mod Checking
pub mod Parts
pub mod Back
