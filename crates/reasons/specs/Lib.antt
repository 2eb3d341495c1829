-- Why a call is denied.
pub mod Reasons
pub mod Explained
