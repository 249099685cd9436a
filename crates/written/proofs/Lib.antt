pub mod Stands
pub mod Patterns
pub mod Axes
pub mod Records
pub mod Queries
pub mod Table
pub mod Back
