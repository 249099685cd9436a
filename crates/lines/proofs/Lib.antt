pub mod Putting
pub mod Numbers
pub mod Listing
pub mod Worked
