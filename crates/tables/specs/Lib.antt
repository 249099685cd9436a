pub mod Kind
pub mod Shape
pub mod Fields
pub mod Promise
pub mod Laid
