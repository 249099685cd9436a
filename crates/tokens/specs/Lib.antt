pub mod Label
pub mod Reading
