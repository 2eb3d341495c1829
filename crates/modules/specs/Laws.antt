-- Laws that other crates cite; nobody has to read their proofs.
pub mod Parts
