pub mod Laying
pub mod RowTable
pub mod Recording
pub mod Moving
