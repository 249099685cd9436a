pub mod Course
pub mod Entry
pub mod AtHand
pub mod Evaluator
pub mod Evaluation
pub mod Ways
