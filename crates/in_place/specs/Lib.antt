-- Definitions beside document 01's: the bytes of a facility.
pub mod Layout
pub mod Stores
pub mod Fields
pub mod Becoming
