pub mod Tried
pub mod Standing
pub mod Unique
pub mod Words
