-- Beside document 01's definitions: what the reader keeps of the records before a record.
pub mod Progress
pub mod Laws
