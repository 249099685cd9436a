pub mod Axis
pub mod Added
pub mod Star
pub mod Walk
