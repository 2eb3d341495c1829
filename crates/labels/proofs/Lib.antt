-- The proofs of the theorems, and laws that other crates cite.
pub mod Laws
