-- A run in words.
pub mod Patterns
pub mod Sentences
pub mod Short
