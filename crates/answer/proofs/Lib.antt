pub mod Unique
pub mod SamePath
pub mod Drawn
pub mod Giving
pub mod Asking
