-- The laws that the proofs cite.
pub mod Patterns
pub mod Parts
