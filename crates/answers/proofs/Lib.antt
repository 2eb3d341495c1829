-- Laws that only this crate's proofs cite, and proofs of its statements.
pub mod Table47
pub mod Laws
