-- Facts of all reads, and of a turn.
pub mod AllReads
pub mod Turns
