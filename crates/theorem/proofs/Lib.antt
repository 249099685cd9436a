pub mod Rewriting
pub mod Simulation
pub mod Induction
pub mod Axes
pub mod Theorem
pub mod Twice
pub mod VisibleFilter
pub mod VisibleExactly
