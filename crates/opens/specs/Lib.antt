-- Definitions: the opens.
pub mod Opens
pub mod Laws
