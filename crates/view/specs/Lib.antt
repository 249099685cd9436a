pub mod Annotation
pub mod Visible
pub mod View
pub mod Same
pub mod Promise
