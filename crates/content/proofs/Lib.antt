pub mod Ruling
pub mod Naming
