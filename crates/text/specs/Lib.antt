pub mod Grammar
pub mod Written
pub mod Promise
pub mod Print
