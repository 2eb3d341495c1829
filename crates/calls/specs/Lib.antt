-- Definitions beside document 01's: what a call looks at, as far as it asks for it.
pub mod Seen
