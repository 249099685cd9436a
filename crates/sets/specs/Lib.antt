pub mod Bits
pub mod Sets
pub mod Merge
pub mod Ones
