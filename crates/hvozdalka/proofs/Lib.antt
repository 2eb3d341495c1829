-- Facts that several proofs cite, and proofs of statements.
pub mod Seats
pub mod Why
