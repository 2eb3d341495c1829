-- Laws that only this crate's proofs cite, and proofs of its statements.
pub mod ClassCodes
