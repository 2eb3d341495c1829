-- Definitions and statements beside document 01's: calls as bytes, what is promised after a list of calls, and what replay returns.
pub mod CallBytes
pub mod Promised
pub mod Replayed
pub mod Laws
