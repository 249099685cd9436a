pub mod Spanning
pub mod Moving
pub mod Settling
pub mod Rounds
pub mod Keeping
pub mod Passing
pub mod Counting
