-- Definitions: the state.
pub mod State
pub mod Shaped
pub mod Outside
pub mod Laws
