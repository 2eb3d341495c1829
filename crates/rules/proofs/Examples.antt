-- Examples computed from the definitions, a module for each section of document 01, for file flags, for signals, for moves, for categories, and for rules
-- that meet: each rule on both sides of each of its conditions.
pub mod SetupRecords
pub mod State
pub mod Classes
pub mod Questions
pub mod Modules
pub mod FileFlags
pub mod Effects
pub mod Calls
pub mod Matter
pub mod Signals
pub mod Moves
pub mod Categories
pub mod Lines
pub mod Together
