-- Definitions beside document 01's: a text stored into a lent buffer.
pub mod Stored
pub mod Laws
