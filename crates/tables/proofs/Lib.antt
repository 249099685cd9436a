pub mod KindTable
pub mod Entries
pub mod Deciding
pub mod Heights
pub mod Walk
pub mod Outcomes
pub mod Found
