pub mod Rulebook
