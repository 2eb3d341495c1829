-- Laws that other crates cite, with those that these rest on; nobody has to read their proofs.
pub mod AfterCalls
pub mod BitRows
pub mod LedgerIsAccount
