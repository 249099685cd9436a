pub mod Scanning
pub mod Putting
