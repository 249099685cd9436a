pub mod Heights
pub mod Walk
pub mod Listed
