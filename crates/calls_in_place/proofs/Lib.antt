-- The proof of the statement.
pub mod InPlace
