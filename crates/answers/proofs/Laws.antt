-- Laws that other crates cite, with those that these rest on; nobody has to read their proofs.
pub mod Answers
pub mod Outcomes
pub mod Questions
