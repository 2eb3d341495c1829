-- Definitions beside document 01's: the questions in parts.
pub mod Parts
pub mod Laws
