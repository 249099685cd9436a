pub mod Fields
pub mod Checks
pub mod Ready
