pub mod Slips
pub mod Parsing
pub mod Answering
