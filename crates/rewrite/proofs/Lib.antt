pub mod Faithful
pub mod Given
pub mod Made
