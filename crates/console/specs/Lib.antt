-- What is known of what a program reads and writes.
pub mod Files
pub mod Examples
