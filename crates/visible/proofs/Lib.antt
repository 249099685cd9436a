pub mod Indexing
pub mod Answering
pub mod Showing
pub mod Deciding
