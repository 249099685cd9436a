pub mod Worked
pub mod Cases
