-- Definitions beside document 01's: the account of matter as bits of words.
pub mod LedgerSteps
pub mod AfterCalls
pub mod Laws
