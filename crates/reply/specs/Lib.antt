pub mod Reply
pub mod Bytes
pub mod Outcome
