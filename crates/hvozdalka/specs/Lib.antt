-- What C is given.
pub mod Numbers
pub mod Seats
pub mod Examples
