-- Laws that other crates cite, with those that these rest on; nobody has to read their proofs.
pub mod Entered
pub mod SameNumber
pub mod ReadingLoop
pub mod FirstRecord
