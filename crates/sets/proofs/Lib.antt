pub mod Digits
pub mod Words
pub mod Parts
pub mod Keeping
pub mod Size
pub mod Merging
