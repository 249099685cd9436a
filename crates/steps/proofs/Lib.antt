pub mod Adding
pub mod SeveralAxes
pub mod Going
pub mod Members
pub mod Reaching
