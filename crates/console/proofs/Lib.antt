-- Facts that several proofs cite.
pub mod Front
pub mod Said
