pub mod Nearest
pub mod Positions
pub mod Carried
pub mod Order
pub mod Deciding
pub mod Cutting
pub mod Unique
pub mod Accepted
