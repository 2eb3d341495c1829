-- Laws that other crates cite, with those that these rest on; nobody has to read their proofs.
pub mod Decimals
pub mod Stored
pub mod Stores
pub mod Puts
