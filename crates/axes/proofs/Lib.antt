pub mod Formulas
pub mod Updown
pub mod Beside
pub mod Sideways
pub mod Backwards
