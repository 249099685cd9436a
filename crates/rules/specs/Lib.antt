pub mod Language
pub mod Table
pub mod Read
pub mod Rules
pub mod Promise
