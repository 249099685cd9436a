pub mod Syntax
pub mod Meaning
pub mod Kind
pub mod Table
pub mod Fault
pub mod Turn
