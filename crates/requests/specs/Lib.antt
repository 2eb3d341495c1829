-- Definitions beside document 01's: the codes of classes, and what is known of a request.
pub mod ClassCodes
pub mod Request
pub mod Laws
