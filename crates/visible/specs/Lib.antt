pub mod Index
pub mod Answers
pub mod Shown
