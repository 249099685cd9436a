pub mod Unique
pub mod SamePath
pub mod Positions
pub mod Through
pub mod Alike
pub mod OnView
pub mod Demand
