pub mod Images
pub mod Filters
pub mod Filtered
pub mod Rounds
pub mod Walks
pub mod Stepping
pub mod Operands
pub mod Left
