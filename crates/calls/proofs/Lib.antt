-- Laws of this crate's own, for its proofs.
pub mod Seen
pub mod Created
