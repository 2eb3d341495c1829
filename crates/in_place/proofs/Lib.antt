-- Laws that only this crate's proofs cite, and proofs of its statements.
pub mod Stored
pub mod BytesOfParts
pub mod Words
pub mod Changed
pub mod Cleared
pub mod Fields
