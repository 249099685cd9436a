pub mod Answering
pub mod Finding
pub mod Drawing
pub mod Keeping
pub mod Unique
pub mod Cut
