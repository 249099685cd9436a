pub mod Drawn
pub mod Inner
