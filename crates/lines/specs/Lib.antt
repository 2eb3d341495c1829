-- Definitions beside document 01's: the parts of a line, and blocks of lines.
pub mod Texts
pub mod Blocks
