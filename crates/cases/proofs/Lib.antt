pub mod Tests
pub mod Accepted
pub mod Listing
pub mod Outcomes
pub mod Worked
pub mod Proved
