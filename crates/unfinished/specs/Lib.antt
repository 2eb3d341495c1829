-- Definitions: unfinished opens.
pub mod Unfinished
pub mod Laws
