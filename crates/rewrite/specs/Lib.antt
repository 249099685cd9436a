pub mod Promise
pub mod Visible
