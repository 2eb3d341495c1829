-- What a turn of the program does.
pub mod Turns
