-- Laws of unfinished opens.
pub mod Unfinished
