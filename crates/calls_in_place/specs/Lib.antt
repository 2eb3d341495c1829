-- Calls made one by one where the facility is, with the account of matter kept along.
pub mod InPlace
