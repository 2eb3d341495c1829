-- Definitions beside document 01's: the modules' answers by what is known of the request.
pub mod Parts
pub mod Laws
