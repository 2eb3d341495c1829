-- The words for numbers, and for the conditions that failed.
pub mod Words
pub mod Reasons
