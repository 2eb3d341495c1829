-- Definitions beside document 02's: objects of which three lists are known, and laws of them.
pub mod Lists
pub mod Laws
