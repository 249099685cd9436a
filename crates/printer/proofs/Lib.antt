pub mod Going
pub mod Made
pub mod Calling
