mod Refusals
mod Parts
pub mod Unique
pub mod Again
