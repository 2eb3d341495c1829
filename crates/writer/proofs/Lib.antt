-- Laws that only this crate's proofs cite.
pub mod NewNumbers
pub mod WritingLoop
