-- The proofs of the theorems, and laws that other crates cite.
pub mod Examples
pub mod MacTold
pub mod Explained
pub mod Enough
pub mod Needed
pub mod Found
