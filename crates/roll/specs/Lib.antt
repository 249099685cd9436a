pub mod Roll
pub mod Promise
pub mod Sibling
