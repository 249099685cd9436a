pub mod Bitmap
pub mod Promise
pub mod Given
