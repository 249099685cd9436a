pub mod Promise
pub mod Demand
pub mod Through
