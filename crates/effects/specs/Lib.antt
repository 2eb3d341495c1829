-- Definitions beside document 01's: what a call with a number changes.
pub mod Changes
pub mod Laws
